-- One slot served on m cores: what each core takes, and the sets and the row that the code keeps of it.
-- Assumes nothing.
use mathlib.Core.Bool.{Bool, true, false, not, ◌&&◌, ◌||◌, and-true, and-false, or-false}
use mathlib.Core.List.{List}
use mathlib.Core.Logic.{⊎_elim}
use mathlib.Core.Path.{◌≡◌, refl, sym, ap, subst, ◌∙◌}
use Prim.Native.Nat.{ℕ, zero, suc, ◌+◌, ◌≤◌, ◌<◌}
use native.Mathlib.Decide.{le_ind}
use native.Mathlib.Nat.{le_refl, le_of_lt}
use native.Mathlib.Numerals.{add-one}
use native.Mathlib.Omega.{arith}
use borrow.Author.Tests.{le-leb, lt-leb, eq-eqb, ne_eqb}
use lib.Dec.{T, eqb, leb, ltb, leb→le, le→leb, ltb→lt, lt→ltb, eqb→eq}
use lib.ListN.{length-set, set}
use lib.Seq.{get_or-set_same, get_or-set_other}
use Rattle.schedule.specs.Row.{put}
use Rattle.schedule.specs.Jobs.{Jobs}
use Rattle.schedule.specs.Make.{choose, taken, serve, slots, seat}
use Rattle.schedule.proofs.Tests.{and_pair, and_fst, and_snd, or_left, or_right, or_split, same_test, eq→eqb, le_by}
use Rattle.schedule.proofs.Search.{least, split_last}
use Rattle.schedule.proofs.Rows.{put_cases, put_other}
use Rattle.schedule.proofs.Choice.{ready_read, ready_write}
use Rattle.schedule.proofs.Loop.{Agree, choose_ext}
use Rattle.schedule.proofs.Seats.{taken_chosen, taken_free, seat_slot, slot_seat, idle_after}
use Rattle.sets.specs.Sets.{has, With, Without}
use Rattle.sets.proofs.Bits.{none_is}
use Rattle.sets.proofs.Range.{with_in}
use Rattle.book.specs.Told.{Book, jobs_of, row_in, latest_of, cores}
use Rattle.plan.specs.declared.layout.Stage.{Stage}
use Rattle.plan.specs.Plan.{unplaced, slots_by, seat_at}
use Rattle.plan.specs.Inner.Choice.{begins, ready_by, others, Wakes}
use Rattle.plan.specs.Inner.Layout.{is_on_core_1, Kept, Serving, Serves}
use Rattle.plan.proofs.BySets.{choice_taken}

-- ---- the row and the set of jobs left
module _ (size t : ℕ) (slot_of : ℕ → ℕ) (slot : List ℕ) (left : ℕ) (k : Kept size slot_of slot left) where
  -- what agrees with the slots is kept as well
  kept_alike : (other : ℕ → ℕ) → Agree size other slot_of → Kept size other slot left
  kept_alike other e = record {
    row = k.row;
    at = λ i l placed. k.at i l (omega (arith, placed, e i l)) ∙ sym (e i l);
    free = λ i l. k.free i l ∙ ap (leb unplaced) (sym (e i l));
    held = k.held;
  }

  -- a core that takes a job
  kept_put : (job rest : ℕ) → job < size → size ≤ 64 → t < unplaced → Without left job rest → Kept size (put slot_of job t) (set slot job t) rest
  kept_put job rest l few early without = record {
    row = simp length-set k.row;
    at = λ i h placed. sym (⊎_elim
        (λ x. x.1 ∙ sym (rw x.0 (get_or-set_same slot job t 0 (omega (arith, k.row)))))
        (λ x. x.1 ∙ sym (k.at i h (omega (arith, placed, x.1))) ∙ sym (get_or-set_other slot job i t 0 x.0))
        (put_cases slot_of job t i));
    free = λ i h. without i ∙ ⊎_elim
        (λ x. rw x.1 (simp (eq-eqb i job x.0, lt-leb unplaced t early, and-false)))
        (λ x. rw x.1 (simp (ne_eqb i job x.0, and-true) (k.free i h)))
        (put_cases slot_of job t i);
    held = λ i x. k.held i (and_fst (has left i) (not (eqb i job)) (subst T (without i) x));
  }

-- ---- the seats of slot t
module _ (m : ℕ) (J : Jobs) (row : ℕ → ℕ) (t : ℕ) where
  abbrev now : ℕ → ℕ
  now = slots_by m J row t

  -- the slots once c cores have taken their jobs
  abbrev after : ℕ → ℕ → ℕ
  after = serve J row unplaced t now

  after_none : after 0 ≡ now
  unfolding serve
  after_none = refl

  after_next : (c : ℕ) → after (suc c) ≡ put (after c) (seat_at m J row t c) t
  unfolding seat serve
  after_next c = refl

  slots_next : slots_by m J row (t + 1) ≡ after m
  unfolding slots
  slots_next = ap (slots m J row unplaced) (add-one t)

  seat_taken : (c : ℕ) → seat_at m J row t c ≡ taken J row unplaced t (after c)
  unfolding seat
  seat_taken c = refl

  -- a core takes a job, or is idle
  idle_is : (c : ℕ) → J.size ≤ seat_at m J row t c → seat_at m J row t c ≡ J.size
  idle_is c h = ⊎_elim (λ l. absurd (omega (arith, seat_taken c))) (λ e. seat_taken c ∙ e) (taken_chosen J row unplaced t (after c)).range

  -- after an idle core nothing changes
  idle_alike : (c d : ℕ) → c ≤ d → seat_at m J row t c ≡ J.size → Agree J.size (after d) (after c)
  idle_alike c d h e = (le_ind (λ d. (seat_at m J row t d ≡ J.size) × Agree J.size (after d) (after c)) (e, λ i l. refl)
      (λ d h x. (idle_after m J row unplaced t d x.0, λ i l. ap (λ f. f i) (after_next d) ∙ put_other (after d) (seat_at m J row t d) t i (λ q. omega (arith, x.0)) ∙ x.1 i l))
      d h).1

  -- the jobs left before the slot are those in no earlier one, whoever has been served
  late_after : t < unplaced → (c i : ℕ) → i < J.size → leb unplaced (now i) ≡ leb t (after c i)
  late_after early zero i l = rw after_none (⊎_elim
      (λ e. ap (leb unplaced) e ∙ sym (ap (leb t) e ∙ le-leb t unplaced (omega arith)))
      (λ x. let h : now i < t = x.2 in lt-leb unplaced (now i) (omega arith) ∙ sym (lt-leb t (now i) h))
      (slot_seat m J row unplaced i t))
  late_after early (suc c) i l = late_after early c i l ∙ rw (after_next c) (⊎_elim
      (λ x.
      let free : unplaced ≤ after c i = taken_free J row unplaced t (after c) i l (x.0 ∙ seat_taken c) in
      le-leb t (after c i) (omega arith) ∙ sym (ap (leb t) x.1 ∙ le-leb t t (omega arith)))
      (λ x. ap (leb t) (sym x.1))
      (put_cases (after c) (seat_at m J row t c) t i))

-- ---- who is on core 1 after t slots: the jobs of its seats
module _ (m : ℕ) (two : 1 < m) (J : Jobs) (row : ℕ → ℕ) (t i : ℕ) (early : t ≤ unplaced) (held : i < J.size) where
  core_1_seat : T (is_on_core_1 m J row (slots_by m J row t) i) → (u : ℕ) × (u < t) × (seat_at m J row u 1 ≡ i)
  core_1_seat x =
      let u : ℕ = slots_by m J row t i in
      let placed : u < unplaced = ltb→lt u unplaced (and_fst (ltb u unplaced) (eqb (seat_at m J row u 1) i) x) in
      (u, ⊎_elim (λ e. absurd (omega arith)) (λ y. y.2) (slot_seat m J row unplaced i t), eqb→eq (seat_at m J row u 1) i (and_snd (ltb u unplaced) (eqb (seat_at m J row u 1) i) x))

  seat_core_1 : (u : ℕ) → u < t → seat_at m J row u 1 ≡ i → T (is_on_core_1 m J row (slots_by m J row t) i)
  seat_core_1 u l e =
      let at : slots_by m J row t i ≡ u = subst (λ j. slots_by m J row t j ≡ u) e (seat_slot m J row unplaced u 1 t two l (omega arith) (omega (arith, e))) in
      subst (λ v. T (ltb v unplaced && eqb (seat_at m J row v 1) i)) (sym at)
      (and_pair (ltb u unplaced) (eqb (seat_at m J row u 1) i) (lt→ltb u unplaced (omega arith)) (eq→eqb (seat_at m J row u 1) i e))

-- one slot later
core_1_next : (m : ℕ) → 1 < m → (J : Jobs) (row : ℕ → ℕ) (t i : ℕ) → t < unplaced → i < J.size →
    is_on_core_1 m J row (slots_by m J row (t + 1)) i ≡ (is_on_core_1 m J row (slots_by m J row t) i || eqb i (seat_at m J row t 1))
core_1_next m two J row t i early held = same_test (on (t + 1)) (on t || last) to from
  where
    on : ℕ → Bool
    on t = is_on_core_1 m J row (slots_by m J row t) i

    last : Bool
    last = eqb i (seat_at m J row t 1)

    to : T (on (t + 1)) → T (on t || last)
    to x = let y = core_1_seat m two J row (t + 1) i (omega arith) held x in ⊎_elim
        (λ e. or_right (on t) last (eq→eqb i (seat_at m J row t 1) (sym (subst (λ u. seat_at m J row u 1 ≡ i) e y.2))))
        (λ l. or_left (on t) last (seat_core_1 m two J row t i (omega arith) held y.0 l y.2))
        (split_last (subst (λ n. y.0 < n) (add-one t) y.1))

    from : T (on t || last) → T (on (t + 1))
    from x = ⊎_elim
        (λ a. let y = core_1_seat m two J row t i (omega arith) held a in seat_core_1 m two J row (t + 1) i (omega arith) held y.0 (omega (arith, y.1)) y.2)
        (λ b. seat_core_1 m two J row (t + 1) i (omega arith) held t (omega arith) (sym (eqb→eq i (seat_at m J row t 1) b)))
        (or_split (on t) last x)

-- ---- idle slots: no job is ready at t, and none starts before `next`
module _ (m : ℕ) (J : Jobs) (row : ℕ → ℕ) (t next : ℕ) (early : t < unplaced) (idle : seat_at m J row t 0 ≡ J.size) (w : Wakes J.size J.start t next) where
  -- nothing is ready in between
  still_idle : (u : ℕ) → t ≤ u → u < next → Agree J.size (slots_by m J row u) (slots_by m J row t) → seat_at m J row u 0 ≡ J.size
  still_idle u h l same = idle_is m J row u 0 (le_by J.size (seat_at m J row u 0) busy)
    where
      k : ℕ
      k = seat_at m J row u 0

      core_0 : (v : ℕ) → seat_at m J row v 0 ≡ taken J row unplaced v (slots_by m J row v)
      core_0 v = seat_taken m J row v 0 ∙ ap (taken J row unplaced v) (after_none m J row v)

      busy : k < J.size → ⊥
      busy held =
          let r = ready_read J unplaced u (slots_by m J row u) k (rw (core_0 u) ((taken_chosen J row unplaced u (slots_by m J row u)).sound (rw (core_0 u) at held))) in
          omega (
            arith,
            idle,
            core_0 t,
            (taken_chosen J row unplaced t (slots_by m J row t)).below k held (ready_write J unplaced t (slots_by m J row t) k (record {
              begun = le_by (J.start k) t (λ x. omega (arith, w.none k held x, r.begun));
              free = omega (arith, same k held, r.free);
              led = λ a ha x. ⊎_elim
                  (λ e. absurd (omega (arith, e, same a ha, r.led a ha x, w.within)))
                  (λ y. y.2)
                  (slot_seat m J row unplaced a t);
            })),
          )

  idle_slots : (u : ℕ) → t ≤ u → u ≤ next → Agree J.size (slots_by m J row u) (slots_by m J row t)
  idle_slots u h = le_ind (λ u. u ≤ next → Agree J.size (slots_by m J row u) (slots_by m J row t)) (λ l i hi. refl)
      (λ u h ih l i hi.
      let same : Agree J.size (slots_by m J row u) (slots_by m J row t) = ih (omega arith) in
      ap (λ v. slots_by m J row v i) (sym (add-one u)) ∙ ap (λ f. f i) (slots_next m J row u)
      ∙ idle_alike m J row u 0 m (omega arith) (still_idle u h (omega arith) same) i hi ∙ ap (λ f. f i) (after_none m J row u) ∙ same i hi)
      u h

-- of three tests the last two may change places
swap_last : (x y z : Bool) → ((x && y) && z) ≡ ((x && z) && y)
swap_last true true z = sym (and-true z)
swap_last true false z = sym (and-false z)
swap_last false y z = refl

-- ---- what the code does in a slot
module _ (k : Book) (slot : List ℕ) (g : Stage) (s : Serving cores k slot g) where
  abbrev t : ℕ
  t = g.next.0

  abbrev left : ℕ
  left = g.left

  abbrev J : Jobs
  J = jobs_of k

  abbrev row : ℕ → ℕ
  row = latest_of k

  -- the slots once c cores have taken their jobs, and core c's job
  abbrev served : ℕ → ℕ → ℕ
  served = after cores J row t

  abbrev pub job_of : ℕ → ℕ
  job_of = seat_at cores J row t

  kept_none : Kept k.size (served 0) slot left
  kept_none = rw (after_none cores J row t) s.laid.kept

  -- a core takes its job
  kept_job : (c : ℕ) (slot' : List ℕ) (among job rest : ℕ) → Kept k.size (served c) slot' among → job ≡ job_of c → job < k.size → Without among job rest → Kept k.size (served (suc c)) (set slot' job t) rest
  kept_job c slot' among job rest x e l w =
      rw (after_next cores J row t c, ← e) (kept_put k.size t (served c) slot' among x job rest l s.few s.early w)

  -- some job is left
  some_left : (i : ℕ) × (i < k.size) × (unplaced ≤ now cores J row t i)
  some_left = ⊎_elim
      (λ none. absurd (s.some (none_is left (λ j x. none j (s.laid.kept.held j x) x))))
      (λ x. (x.at, x.below, leb→le unplaced (now cores J row t x.at) (subst T (s.laid.kept.free x.at x.below) x.member)))
      (least k.size (has left) (λ i. i))

  -- core c's job, as the code chooses it of the jobs not taken yet; what other cores took is still undone
  job_chosen : (c : ℕ) (slot' : List ℕ) (among : ℕ) → Kept k.size (served c) slot' among → choose k.size row (ready_by k among left t) k.size ≡ job_of c
  job_chosen c slot' among x =
      choice_taken k t among left (served c) x.free
      (λ i l. s.laid.kept.free i l ∙ late_after cores J row t s.early c i l) s.laid.kept.held ∙ sym (seat_taken cores J row t c)

  pub core_0_is : choose k.size row (ready_by k left left t) k.size ≡ job_of 0
  core_0_is = job_chosen 0 slot left kept_none

  -- both idle, until a job starts
  pub idle_serves : (next : ℕ) → k.size ≡ job_of 0 → Wakes k.size (row_in k.start) t next →
      Serves cores k g slot (record { left = left; on_core_1 = g.on_core_1; next = record { 0 = next } })
  idle_serves next e w = record {
    later = w.later;
    within = w.within;
    laid = record {
      kept = kept_alike k.size t (now cores J row t) slot left s.laid.kept (slots_by cores J row next) same;
      on_1 = λ i l. s.laid.on_1 i l ∙ ap (λ x. ltb x unplaced && eqb (seat_at cores J row x 1) i) (sym (same i l));
    };
    late = let x = some_left in (x.0, x.1, omega (arith, same x.0 x.1, x.2, w.within));
  }
    where
      same : Agree k.size (slots_by cores J row next) (now cores J row t)
      same = idle_slots cores J row t next s.early (sym e) w next (le_of_lt w.later) (le_refl next)

  -- what is kept of the whole slot serves
  next_serves : (slot' : List ℕ) (left' on_1 : ℕ) → Kept k.size (served cores) slot' left' → ((i : ℕ) → i < k.size → has on_1 i ≡ (has g.on_core_1 i || eqb i (job_of 1))) →
      Serves cores k g slot' (record { left = left'; on_core_1 = on_1; next = record { 0 = t + 1 } })
  next_serves slot' left' on_1 kept more = record {
    later = omega arith;
    within = omega (arith, s.early);
    laid = record {
      kept = rw (slots_next cores J row t) kept;
      on_1 = λ i l. more i l ∙ ap (λ b. b || eqb i (job_of 1)) (s.laid.on_1 i l) ∙ sym (core_1_next cores (omega arith) J row t i s.early l);
    };
    late =
        let x = some_left in
        let late : T (leb t (served cores x.0)) = subst T (late_after cores J row t s.early cores x.0 x.1) (le→leb unplaced (now cores J row t x.0) x.2) in
        (x.0, x.1, rw (slots_next cores J row t) (omega (arith, leb→le t (served cores x.0) late)));
  }

  module _ (a rest : ℕ) (e : a ≡ job_of 0) (held : a < k.size) (without : Without left a rest) where
    kept_core_0 : Kept k.size (served 1) (set slot a t) rest
    kept_core_0 = kept_job 0 slot left a rest kept_none e held without

    pub core_1_is : choose k.size row (others a (ready_by k left left t)) k.size ≡ job_of 1
    core_1_is =
        choose_ext k.size row row (others a (ready_by k left left t)) (ready_by k rest left t) k.size
        (λ i l. refl)
        (λ i l. swap_last (has left i) (begins k left t i) (not (eqb i a)) ∙ ap (λ x. x && begins k left t i) (sym (without i)))
        ∙ job_chosen 1 (set slot a t) rest kept_core_0

    -- a lone job on core 0
    pub lone_serves : k.size ≡ job_of 1 → Serves cores k g (set slot a t) (record { left = rest; on_core_1 = g.on_core_1; next = record { 0 = t + 1 } })
    lone_serves idle =
        next_serves (set slot a t) rest g.on_core_1
        (kept_alike k.size t (served 1) (set slot a t) rest kept_core_0 (served cores) (idle_alike cores J row t 1 cores (omega arith) (sym idle)))
        (λ i l. rw (ne_eqb i (job_of 1) (λ q. omega arith)) (sym (or-false (has g.on_core_1 i))))

    -- a job on each core
    pub full_serves : (b left' on_1 : ℕ) → b ≡ job_of 1 → b < k.size → Without rest b left' → With g.on_core_1 b on_1 →
        Serves cores k g (set (set slot a t) b t) (record { left = left'; on_core_1 = on_1; next = record { 0 = t + 1 } })
    full_serves b left' on_1 f h less more =
        next_serves (set (set slot a t) b t) left' on_1
        (kept_job 1 (set slot a t) rest b left' kept_core_0 f h less)
        (λ i l. rw (← f) (with_in g.on_core_1 b on_1 (omega (arith, s.few)) more i))

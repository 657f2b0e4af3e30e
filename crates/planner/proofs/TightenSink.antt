-- A row sinks, job by job and d by d.
-- Assumes nothing.
use mathlib.Core.Bool.{Bool, true, false, ◌&&◌, ◌||◌}
use mathlib.Core.List.{List}
use mathlib.Core.Logic.{◌⊎◌, inl, inr, ⊎_elim}
use mathlib.Core.Path.{◌≡◌, refl, sym, ap, ap₂, subst, ◌∙◌}
use Prim.Native.Nat.{ℕ, ◌≤◌, ◌<◌}
use native.Mathlib.Nat.{le_antisymm}
use native.Mathlib.Omega.{arith}
use borrow.Author.Tests.{lt-ltb, le-leb}
use lib.Bits.{bit_and, bit_or, or_add_and, and_le_l}
use lib.Dec.{T, eqb, eqb→eq, eqb_refl, leb, leb→le, le→leb, ltb, ltb→lt, lt→ltb}
use lib.ListN.{length, get_or, set}
use lib.Seq.{get_or-set_same, get_or-set_other}
use Rattle.schedule.specs.Jobs.{Jobs}
use Rattle.schedule.specs.Row.{put}
use Rattle.schedule.specs.Plan.{HasPlan}
use Rattle.schedule.specs.Times.{Consistent, Earliest}
use Rattle.schedule.proofs.Tests.{test, and_pair, and_fst, and_snd, or_right, le_or_lt}
use Rattle.schedule.proofs.Loop.{put_set}
use Rattle.schedule.proofs.Few.{Few, own, other, consistent_few}
use Rattle.planner.specs.declared.tighten.Due.{Due}
use Rattle.std.specs.Prelude.{Some}
use Rattle.sets.specs.Sets.{has, Without}
use Rattle.book.specs.Told.{jobs_in, row_in}
use Rattle.planner.specs.Inner.Tighten.Tables.{Follows}
use Rattle.planner.specs.Inner.Tighten.{Tightens, Fell, Moves, AtD, Swept, Settles}
use Rattle.planner.specs.Inner.Tighten.Sink.{Eased, Sunk}
use Rattle.planner.specs.Inner.Tighten.Rule.{DueBy, Obeys, Ruled}
use Rattle.sets.proofs.Bits.{and_has, has_some, walk_split}
use Rattle.schedule.proofs.Readings.{latest_any}
use Rattle.planner.proofs.TightenDue.{DueBelow}
use Rattle.planner.proofs.TightenLower.{bound_join, bound_same, bound_none}

holds : (b : Bool) → T b → b ≡ true
holds true t = refl
holds false t = elim t [ ]

-- ---- one row after another
module _ {m : ℕ} {J : Jobs} {early : ℕ → ℕ} {first row : List ℕ} (q : Sunk m J early first row) where
  pub sunk_join : {next : List ℕ} → Sunk m J early row next → Sunk m J early first next
  sunk_join {next = next} r = record { rest = λ i g. r.rest i g ∙ q.rest i g; bound = bound_join m J early (row_in first) (row_in row) (row_in next) q.bound r.bound }

  pub none_join : (HasPlan m J (row_in row) → ⊥) → HasPlan m J (row_in first) → ⊥
  none_join f p = f (p.0, p.1, q.bound.plans p.0 p.1 p.2)

  pub fell_then : {next last : List ℕ} → Fell J row next → Sunk m J early next last → Fell J first last
  fell_then f r = (f.0, f.1, omega (arith, f.2, q.bound.beneath f.0 f.1, r.bound.beneath f.0 f.1))

  -- one job's time stored
  module _ {i time : ℕ} (few : J.size ≤ 64) (long : length row ≡ 64) (l : i < J.size) (e : Eased m J early (row_in row) i time) where
    pub sunk_put : Sunk m J early first (set row i time)
    sunk_put = record {
      rest = λ j g. get_or-set_other row i j time 0 (λ x. omega arith) ∙ q.rest j g;
      bound = bound_join m J early (row_in first) (row_in row) (row_in (set row i time)) q.bound
          (bound_same m J early (row_in row) (put (row_in row) i time) (row_in (set row i time)) (λ j lj. put_set row i time 0 j (omega arith)) e.bound);
    }

    pub sunk_none : time ≡ 0 → HasPlan m J (row_in first) → ⊥
    sunk_none z = bound_none m J early (row_in first) (row_in (set row i time)) sunk_put.bound i l (get_or-set_same row i time 0 (omega arith) ∙ z)

-- a time stored keeps a row below d
pub stored_low : (row : List ℕ) (i time d : ℕ) → i < length row → time ≤ d → (j : ℕ) → get_or row j 0 ≤ d → get_or (set row i time) j 0 ≤ d
stored_low row i time d l h j g =
    ⊎_elim (λ x. rw (eqb→eq j i x, get_or-set_same row i time 0 l) h) (λ f. rw (get_or-set_other row i j time 0 (λ x. f (subst (λ (n : ℕ). T (eqb j n)) x (eqb_refl j)))) g) (test (eqb j i))

-- ---- followers among the jobs that moved
pub followed : (J : Jobs) (followers : List ℕ) (i moved : ℕ) → i < J.size → Follows J followers →
    (j : ℕ) → T (has (bit_and (get_or followers i 0) moved) j) → (j < J.size) × T (J.before i j)
followed J followers i moved l f j t =
    let x : T (ltb j J.size && J.before i j) = rw (f i j l) at (and_fst (has (get_or followers i 0) j) (has moved j) (rw (and_has (get_or followers i 0) moved j) at t)) in
    (ltb→lt j J.size (and_fst (ltb j J.size) (J.before i j) x), and_snd (ltb j J.size) (J.before i j) x)

-- ---- the rule at one d: the jobs of `rest` are still to do
pub record Lowering (m : ℕ) (J : Jobs) (early : ℕ → ℕ) (first row : List ℕ) (d due moved rest : ℕ) : Type 0 where
  pub soon : DueBy J.size (row_in row) d due
  pub sunk : Sunk m J early first row
  pub still : moved ≡ 0 → (row ≡ first) × ((j : ℕ) → T (has due j) → T (has rest j) ⊎ Obeys m J early (row_in first) j d)
  pub fell : (moved ≡ 0 → ⊥) → Fell J first row

-- a job that is due is a job, and its time is at most d
pub due_job : (size : ℕ) (row : ℕ → ℕ) (d due : ℕ) → DueBy size row d due → (i : ℕ) → T (has due i) → (i < size) × (row i ≤ d)
due_job size row d due s i t =
    let x : T (ltb i size && leb (row i) d) = rw (s i) at t in
    (ltb→lt i size (and_fst (ltb i size) (leb (row i) d) x), leb→le (row i) d (and_snd (ltb i size) (leb (row i) d) x))

module _ {m : ℕ} {J : Jobs} {early : ℕ → ℕ} {first row : List ℕ} {d due moved rest : ℕ} (few : J.size ≤ 64) (long : length row ≡ 64) (q : Lowering m J early first row d due moved rest) where
  module _ {i time : ℕ} (left : ℕ) (in_due : T (has due i)) (w : Without rest i left)
      (r : Ruled m J early (row_in row) i d time) where
    job : (i < J.size) × (get_or row i 0 ≤ d)
    job = due_job J.size (row_in row) d due q.soon i in_due

    stored : get_or (set row i time) i 0 ≡ time
    stored = get_or-set_same row i time 0 (omega (arith, job.0))

    pub lowering_moved : (more : ℕ) → ((j : ℕ) → has more j ≡ (has moved j || eqb j i)) → time < get_or row i 0 → Lowering m J early first (set row i time) d due more left
    lowering_moved more wm h = record {
      soon = λ j. ⊎_elim (λ x. at_i j (eqb→eq j i x)) (λ f. q.soon j ∙ ap (λ (n : ℕ). ltb j J.size && leb n d) (sym (get_or-set_other row i j time 0 (λ x. f (subst (λ (n : ℕ). T (eqb j n)) x (eqb_refl j)))))) (test (eqb j i));
      sunk = sunk_put q.sunk few long job.0 r.eased;
      still = λ z. absurd (has_some more i (rw (wm i) (or_right (has moved i) (eqb i i) (eqb_refl i))) z);
      fell = λ f. (i, job.0, omega (arith, stored, q.sunk.bound.beneath i job.0));
    }
      where
        at_i : (j : ℕ) → j ≡ i → has due j ≡ (ltb j J.size && leb (get_or (set row i time) j 0) d)
        at_i j x = rw x (holds (has due i) in_due ∙ sym (ap₂ (λ (a b : Bool). a && b) (lt-ltb i J.size job.0) (le-leb (get_or (set row i time) i 0) d (omega (arith, stored, job.1)))))

    pub lowering_kept : get_or row i 0 ≤ time → Lowering m J early first row d due moved left
    lowering_kept h = record {
      soon = q.soon;
      sunk = q.sunk;
      still = λ z. (
        (q.still z).0,
        (λ j t. ⊎_elim
            (λ u. ⊎_elim (λ x. inr (rw x (subst (λ (y : List ℕ). Obeys m J early (row_in y) i d) (q.still z).0 (r.obeys (le_antisymm r.eased.below h))))) (λ x. inl x) (walk_split rest left i w j u))
            (λ u. inr u) ((q.still z).1 j t)),
      );
      fell = q.fell;
    }

  pub lowering_moves : DueBy J.size (row_in first) d due → rest ≡ 0 → Moves m J early first row (AtD m J early (row_in first) d) (Some moved)
  lowering_moves s e = (
    q.sunk,
    (λ z. (
      (q.still z).0,
      (λ i l h. ⊎_elim (λ t. absurd (has_some rest i t e)) (λ c. c)
          ((q.still z).1 i (rw (s i) (and_pair (ltb i J.size) (leb (get_or first i 0) d) (lt→ltb i J.size l) (le→leb (get_or first i 0) d h))))),
    )),
    q.fell,
  )

-- ---- a pass: every d from the limit on is done
pub record Passing (m : ℕ) (J : Jobs) (early : ℕ → ℕ) (first row : List ℕ) (moved limit : ℕ) : Type 0 where
  pub sunk : Sunk m J early first row
  pub still : moved ≡ 0 → (row ≡ first) × ((k : ℕ) → k < J.size → limit ≤ get_or first k 0 → AtD m J early (row_in first) (get_or first k 0))
  pub fell : (moved ≡ 0 → ⊥) → Fell J first row

module _ {m : ℕ} {J : Jobs} {early : ℕ → ℕ} {first row : List ℕ} {moved limit : ℕ} (q : Passing m J early first row moved limit) where
  -- nothing moved at d
  pub passing_still : {next : List ℕ} {r : Due} → DueBelow limit J.size row r → next ≡ row → AtD m J early (row_in row) r.d → Passing m J early first next moved r.d
  passing_still {r = r} b e obeyed = subst (λ (x : List ℕ). Passing m J early first x moved r.d) (sym e) (record {
    sunk = q.sunk;
    still = λ z. ((q.still z).0, (λ k l h. ⊎_elim (λ g. (q.still z).1 k l g) (λ g. here z k l h g) (le_or_lt limit (get_or first k 0))));
    fell = q.fell;
  })
    where
      here : moved ≡ 0 → (k : ℕ) → k < J.size → r.d ≤ get_or first k 0 → get_or first k 0 < limit → AtD m J early (row_in first) (get_or first k 0)
      here z k l h g =
          let same : get_or row k 0 ≡ get_or first k 0 = ap (λ (x : List ℕ). get_or x k 0) (q.still z).0 in
          let in_set : T (has r.jobs k) = rw (b.jobs k) (and_pair (ltb k J.size) (ltb (get_or row k 0) limit) (lt→ltb k J.size l) (lt→ltb (get_or row k 0) limit (omega arith))) in
          let top : get_or first k 0 ≡ r.d = le_antisymm (omega (arith, same, b.top k in_set)) h in
          subst (λ (n : ℕ). AtD m J early (row_in first) n) (sym top) (subst (λ (x : List ℕ). AtD m J early (row_in x) r.d) (q.still z).0 obeyed)

  -- some jobs moved, and those before them followed
  pub passing_moved : {low next : List ℕ} {all : ℕ} (d : ℕ) → (all ≡ 0 → ⊥) → Sunk m J early row low → Fell J row low → Sunk m J early low next → Passing m J early first next all d
  passing_moved d some x f y = record { sunk = sunk_join q.sunk (sunk_join x y); still = λ z. absurd (some z); fell = λ g. fell_then q.sunk f y }

  pub passing_moves : ((k : ℕ) → k < J.size → limit ≤ get_or row k 0) → Moves m J early first row (Swept m J early (row_in first)) (Some moved)
  passing_moves none = (
    q.sunk,
    (λ z. (
      (q.still z).0,
      (λ k l. (q.still z).1 k l (omega (arith, none k l, ap (λ (x : List ℕ). get_or x k 0) (q.still z).0))),
    )),
    q.fell,
  )

-- two sets joined are empty only where both are
pub or_some : (x y : ℕ) → (y ≡ 0 → ⊥) → bit_or x y ≡ 0 → ⊥
or_some x y f z = f (omega (arith, or_add_and x y, and_le_l x y))

-- ---- a row whose jobs obey the rule at every d of its own is consistent
pub swept_consistent : (m : ℕ) → 1 ≤ m → (J : Jobs) (early row : ℕ → ℕ) → Swept m J early row → Consistent m J early row
swept_consistent m pos J early row s = consistent_few m pos J early row (λ i l. (s i l i l (omega arith)).window) none
  where
    none : (i : ℕ) → i < J.size → Few m J early row i → ⊥
    none i l (own k lk b) = (s k lk i l b.within.by).own b
    none i l (other j k lj lk b) = (s k lk i l b.within.by).other j lj b

-- ---- the whole
module _ (m : ℕ) (pos : 1 ≤ m) (size : ℕ) (start before row next : List ℕ) (long : length next ≡ 64) where
  abbrev J : Jobs
  J = jobs_in size start before

  pub tightens_settled : (early : ℕ → ℕ) (mid : List ℕ) (fits : Bool) → Earliest J early → Sunk m J early row mid → Settles m J early mid next fits → Tightens m size start before row next fits
  tightens_settled early mid fits e q s = record {
    length = long;
    latest = λ b other o. latest_any m J early other (row_in row) (row_in next) e o
        (record { consistent = swept_consistent m pos J early (row_in next) (s.swept b); beneath = (sunk b).bound.beneath; greatest = (sunk b).bound.rows });
    rest = λ b. (sunk b).rest;
    none = λ b. none_join q (s.none b);
  }
    where
      sunk : fits ≡ true → Sunk m J early row next
      sunk b = sunk_join q (s.sunk b)

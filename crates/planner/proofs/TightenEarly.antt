-- Earliest times, job by job.
-- Assumes nothing.
use mathlib.Core.Bool.{Bool, true, false}
use mathlib.Core.List.{List, ◌++◌}
use mathlib.Core.Logic.{◌⊎◌, inl, inr, ⊎_elim}
use mathlib.Core.Path.{◌≡◌, refl, sym, ap, subst, ◌∙◌}
use Prim.Native.Nat.{ℕ, zero, suc, ◌+◌, ◌≤◌, ◌<◌, max}
use native.Mathlib.Omega.{arith}
use lib.Dec.{T, ltb, ltb→lt}
use lib.ListN.{length, length-set, length-append, get_or, get_or-append, set, take}
use lib.Seq.{get_or-set_same, get_or-set_other}
use borrow.Author.Count.{below_more}
use borrow.Author.Tests.{lt-ltb, le-ltb}
use native.Mathlib.Nat.{le_antisymm}
use Rattle.std.proofs.lemmas.List.{get_or-take, length-take-le}
use Rattle.std.proofs.lemmas.List.Elements.{All-from_get_or}
use Rattle.schedule.specs.Count.{count}
use Rattle.schedule.specs.Jobs.{Jobs, Closed, Loopless}
use Rattle.schedule.specs.Row.{put}
use Rattle.schedule.specs.Times.{Raised, Earliest}
use Rattle.schedule.proofs.Search.{Empty, Least, least}
use Rattle.schedule.proofs.Counting.{count_lt, count_pos, count_find, count_bound}
use Rattle.schedule.proofs.Rows.{Put, put_cases, put_all, put_same}
use Rattle.sets.specs.Sets.{has, Without, Below}
use Rattle.book.specs.Told.{jobs_in, row_in}
use Rattle.planner.specs.Inner.Tighten.Early.{Unblocked, After, Startable, Begins}
use Rattle.schedule.proofs.Tests.{test, le_by, le_or_lt}
use Rattle.schedule.proofs.Early.{raise, raise_earliest}
use Rattle.sets.proofs.Bits.{walk_sub, walk_split, walk_one, has_some, count_cut}
use Rattle.sets.proofs.Range.{below_in}

-- ---- after every job of a set: what is known while the set is walked
pub record Reached (start set : ℕ) (early : List ℕ) (time rest : ℕ) : Type 0 where
  pub from : start ≤ time
  pub within : (a : ℕ) → T (has rest a) → T (has set a)
  pub later : (a : ℕ) → T (has set a) → T (has rest a) ⊎ (get_or early a 0 + 1 ≤ time)
  pub some : (time ≡ start) ⊎ ((a : ℕ) × T (has set a) × (time ≡ get_or early a 0 + 1))

module _ (start set : ℕ) (early : List ℕ) (time rest : ℕ) (r : Reached start set early time rest) where
  -- job k taken: the time is later than its time
  pub reached_next : (k left later : ℕ) → Without rest k left → T (has rest k) → later ≡ max time (get_or early k 0 + 1) → Reached start set early later left
  reached_next k left later w t e = record {
    from = omega (arith, r.from);
    within = λ a u. r.within a (walk_sub rest left k w a u);
    later = λ a u. ⊎_elim (λ v. ⊎_elim (λ x. inr (rw x (omega arith))) (λ x. inl x) (walk_split rest left k w a v)) (λ v. inr (omega arith)) (r.later a u);
    some = ⊎_elim (λ h. inr (k, r.within k t, omega arith)) (λ h. let same : later ≡ time = omega arith in rw same r.some) (le_or_lt time (get_or early k 0));
  }

  pub reached_after : rest ≡ 0 → After start set early time
  reached_after e = record { from = r.from; later = λ a t. ⊎_elim (λ u. absurd (has_some rest a u e)) (λ h. h) (r.later a t); some = r.some }

-- ---- the theory's earliest times, at one job
module _ (J : Jobs) (early : ℕ → ℕ) (e : Earliest J early) where
  -- at most any time from the start on that is after all predecessors
  pub earliest_under : (i v : ℕ) → i < J.size → J.start i ≤ v → ((a : ℕ) → a < J.size → T (J.before a i) → early a + 1 ≤ v) → early i ≤ v
  earliest_under i v l h f = le_by (early i) v (λ lt. omega (arith, e.least (put early i v) (lower lt) i l, put_same early i v))
    where
      apart : v < early i → (a b : ℕ) → a < J.size → b < J.size → T (J.before a b) → Put early i v a → Put early i v b → put early i v a + 1 ≤ put early i v b
      apart lt a b la lb t (inl x) (inl y) = absurd (omega (arith, e.raised.apart a b la lb t, ap early x.0, ap early y.0))
      apart lt a b la lb t (inl x) (inr y) = omega (arith, e.raised.apart a b la lb t, ap early x.0)
      apart lt a b la lb t (inr x) (inl y) = omega (arith, f a la (rw y.0 at t))
      apart lt a b la lb t (inr x) (inr y) = omega (arith, e.raised.apart a b la lb t)

      lower : v < early i → Raised J (put early i v)
      lower lt = record {
        above = λ j lj. put_all (λ (x y : ℕ). J.start x ≤ y) early i v j h (λ g. e.raised.above j lj);
        apart = λ a b la lb t. apart lt a b la lb t (put_cases early i v a) (put_cases early i v b);
      }

  -- no job is later than the last start and a slot for each job
  pub earliest_low : Closed J → Loopless J → (last : ℕ) → ((i : ℕ) → i < J.size → J.start i ≤ last) → (i : ℕ) → i < J.size → early i ≤ last + J.size
  earliest_low closed loopless last h i l =
      omega (
        arith,
        count_bound J.size (λ a. J.before a i),
        e.least (λ j. last + count J.size (λ a. J.before a j)) (record {
          above = λ j lj. omega (arith, h j lj);
          apart = λ a b la lb t.
              let less : count J.size (λ x. J.before x a) < count J.size (λ x. J.before x b) =
              count_lt J.size (λ x. J.before x a) (λ x. J.before x b) a la (λ x lx y. closed.joins x a b lx la lb y t) t (loopless.never a la) in
              omega arith;
        }) i l,
      )

  -- among the jobs to do, the first of all waits for none
  pub some_unblocked : (todo : ℕ) → 0 < count J.size (has todo) →
      (i : ℕ) × (i < J.size) × T (has todo i) × ((a : ℕ) → a < J.size → T (J.before a i) → T (has todo a) → ⊥)
  some_unblocked todo h = go (least J.size (has todo) early)
    where
      go : Empty J.size (has todo) ⊎ Least J.size (has todo) early →
          (i : ℕ) × (i < J.size) × T (has todo i) × ((a : ℕ) → a < J.size → T (J.before a i) → T (has todo a) → ⊥)
      go (inl none) = let x = count_find J.size (has todo) h in absurd (none x.0 x.1 x.2)
      go (inr x) = (x.at, x.below, x.member, (λ a la t u. omega (arith, x.least a la u, e.raised.apart a x.at la x.below t)))

-- rows that agree
pub earliest_same : (J : Jobs) (early row : ℕ → ℕ) → ((i : ℕ) → i < J.size → row i ≡ early i) → Earliest J early → Earliest J row
earliest_same J early row same e = record {
  raised = record {
    above = λ i l. omega (arith, same i l, e.raised.above i l);
    apart = λ a b la lb t. omega (arith, same a la, same b lb, e.raised.apart a b la lb t);
  };
  least = λ other r i l. omega (arith, same i l, e.least other r i l);
}

count_all : (n : ℕ) → count n (λ j. true) ≡ n
unfolding count
count_all zero = refl
count_all (suc n) = omega (arith, count_all n)

-- ---- all of them: k jobs are done, and those to do are left
abbrev earliest_of : ℕ → List ℕ → List ℕ → ℕ → ℕ
earliest_of size start before = raise (jobs_in size start before) size

pub record Making (size : ℕ) (start before early order : List ℕ) (todo k : ℕ) : Type 0 where
  pub in_row : k ≤ size
  pub lengths : (length early ≡ 64) × (length order ≡ size)
  pub inside : (j : ℕ) → T (has todo j) → j < size
  pub left : count 64 (has todo) + k ≡ size
  pub done : (i : ℕ) → i < size → T (has todo i) ⊎ (get_or early i 0 ≡ earliest_of size start before i)
  pub jobs : (l : ℕ) → l < k → get_or order l 0 < size

module _ {size : ℕ} {start before : List ℕ} (s : Startable size start before) where
  abbrev J : Jobs
  J = jobs_in size start before

  abbrev E : ℕ → ℕ
  E = earliest_of size start before

  e : Earliest J E
  e = raise_earliest J s.closed s.loopless

  pub making_start : (early order : List ℕ) (todo : ℕ) → length early ≡ 64 → length order ≡ 64 → Below size todo → Making size start before early (take size order) todo 0
  making_start early order todo le lo b = record {
    in_row = omega arith;
    lengths = (le, length-take-le size order (omega (arith, s.few)));
    inside = λ j t. ltb→lt j size (rw (w j) at t);
    left = omega (arith, count_cut size 64 (has todo) (λ j. true) s.few (λ j l. w j ∙ lt-ltb j size l) (λ j g. w j ∙ le-ltb j size g), count_all size);
    done = λ i l. inl (subst T (sym (w i ∙ lt-ltb i size l)) tt);
    jobs = λ l x. absurd (omega arith);
  }
    where
      w : (j : ℕ) → has todo j ≡ ltb j size
      w = below_in size todo s.few b

  module _ {early order : List ℕ} {todo k : ℕ} (q : Making size start before early order todo k) where
    pub making_unblocked : k < size → (i : ℕ) × Unblocked i (get_or before i 0) todo
    making_unblocked l =
        let n : count 64 (has todo) ≡ count size (has todo) = count_cut size 64 (has todo) (has todo) s.few (λ j x. refl)
        (λ j g. ⊎_elim (λ t. absurd (omega (arith, q.inside j t))) (λ f. none (has todo j) f) (test (has todo j))) in
        let x = some_unblocked J E e todo (omega (arith, q.left)) in
        (x.0, record { member = x.2; ready = λ a t u. x.3 a (s.inside a x.0 t).0 t u })
      where
        none : (b : Bool) → (T b → ⊥) → b ≡ false
        none true f = absurd (f tt)
        none false f = refl

    module _ {i : ℕ} (f : Unblocked i (get_or before i 0) todo) where
      ready : (a : ℕ) → T (has (get_or before i 0) a) → (a < size) × (get_or early a 0 ≡ E a)
      ready a t = let l = (s.inside a i t).0 in (l, ⊎_elim (λ u. absurd (f.ready a t u)) (λ x. x) (q.done a l))

      li : i < size
      li = q.inside i f.member

      module _ {time : ℕ} (a : After (get_or start i 0) (get_or before i 0) early time) where
        timed : time ≡ E i
        timed = le_antisymm
            (⊎_elim (λ x. omega (arith, e.raised.above i li)) (λ x. omega (arith, x.2, (ready x.0 x.1).1, e.raised.apart x.0 i (ready x.0 x.1).0 li x.1)) a.some)
            (earliest_under J E e i time li a.from (λ b lb t. omega (arith, a.later b t, (ready b t).1)))

        -- the time fits in 16 digits
        pub making_time : time < 65535
        making_time = omega (arith, timed, s.few, earliest_low J E e s.closed s.loopless 65470 s.starts i li)

        pub making_next : k < size → (more : ℕ) → Without todo i more → Making size start before (set early i time) (set order k i) more (k + 1)
        making_next l more w = record {
          in_row = omega arith;
          lengths = (simp length-set q.lengths.0, simp length-set q.lengths.1);
          inside = λ j t. q.inside j (walk_sub todo more i w j t);
          left = omega (arith, q.left, walk_one todo more i w (omega (arith, li, s.few)) f.member);
          done = λ j lj. ⊎_elim (λ t. ⊎_elim (λ x. inr (rw x here)) (λ x. inl x) (walk_split todo more i w j t))
              (λ x. ⊎_elim (λ t. ⊎_elim (λ y. inr (rw y here)) (λ y. inl y) (walk_split todo more i w j t)) (λ g. inr (get_or-set_other early i j time 0 (λ y. g (rw y f.member)) ∙ x)) (test (has todo j))) (q.done j lj);
          jobs = below_more (λ x. get_or (set order k i) x 0 < size) k
              (λ x h. rw (get_or-set_other order k x i 0 (λ y. omega arith)) (q.jobs x h))
              (rw (get_or-set_same order k i 0 (omega (arith, s.few, q.lengths.1))) li);
        }
          where
            here : get_or (set early i time) i 0 ≡ E i
            here = get_or-set_same early i time 0 (omega (arith, s.few, li, q.lengths.0)) ∙ timed

    pub making_end : size ≤ k → (after : List ℕ) → Begins size start before early (order ++ after)
    making_end h after = record {
      earliest = earliest_same J E (row_in early) all e;
      low = λ i l. omega (arith, all i l, s.few, earliest_low J E e s.closed s.loopless 65470 s.starts i l);
      jobs = All-from_get_or (λ j. j < size) (take size (order ++ after)) 0 in_row;
    }
      where
        long : size ≤ length (order ++ after)
        long = omega (arith, length-append order after, q.lengths.1)

        in_row : (l : ℕ) → l < length (take size (order ++ after)) → get_or (take size (order ++ after)) l 0 < size
        in_row l x =
            let few : l < size = omega (arith, length-take-le size (order ++ after) long) in
            rw (get_or-take size (order ++ after) l 0 few, get_or-append order after 0 l (omega (arith, q.lengths.1))) (q.jobs l (omega arith))

        all : (i : ℕ) → i < size → get_or early i 0 ≡ E i
        all i l = ⊎_elim (λ t. absurd (omega (arith, q.left, count_pos 64 (has todo) i (omega (arith, s.few)) t))) (λ x. x) (q.done i l)

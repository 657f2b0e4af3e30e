-- Memory is a book made by requests exactly where it is shaped as one, its sets are closed under chains without a loop, and its latest times are consistent.
-- Assumes nothing.
use mathlib.Core.Bool.{Bool, true, false}
use mathlib.Core.List.{List}
use mathlib.Core.Logic.{◌↔◌, ⊎_elim}
use mathlib.Core.Path.{◌≡◌, refl, sym, ap, subst, ◌∙◌}
use Prim.Native.Nat.{ℕ, ◌+◌, ◌-◌, ◌≤◌, ◌<◌}
use native.Mathlib.Nat.{le_antisymm}
use native.Mathlib.Omega.{arith}
use lib.Bits.{bit_or}
use lib.Dec.{T}
use lib.ListN.{length, get_or, take, drop, length-drop, get_or-eq_default}
use lib.Seq.{ext_get_or, get_or-take, get_or-drop, length-take-le}
use Rattle.schedule.specs.Jobs.{Closed, Loopless}
use Rattle.schedule.specs.Times.{Earliest}
use Rattle.schedule.specs.Listed.{Listed, ordered, Chain, link, join, written}
use Rattle.schedule.proofs.Tests.{le_or_lt, same_test, or_left, or_right, or_split, says_and, says_lt, says_not, says_eq}
use Rattle.schedule.proofs.Early.{exists_earliest}
use Rattle.schedule.proofs.Greedy.{row_has_plan}
use Rattle.schedule.proofs.Chains.{reads_closed, reads_loopless}
use Rattle.schedule.proofs.Readings.{latest_any}
use Rattle.sets.specs.Sets.{has, Without, Below}
use Rattle.sets.proofs.Bits.{or_has, empty_has, none_is, has_some, digits_same}
use Rattle.sets.proofs.Range.{below_in}
use Rattle.book.specs.Told.{Book, cores, book_in, jobs_in, jobs_of, latest_of, Made}
use Rattle.book.proofs.Parts.{part_length}
use Rattle.planner.specs.Memory.{Whether}
use Rattle.planner.specs.Inner.Memory.{Limits, Sub, ChainedAt, Regular, Steady}
use Rattle.planner.specs.Inner.Tighten.{Tightens}
use Rattle.planner.specs.Inner.Tighten.Early.{Startable}
use Rattle.planner.proofs.Growing.{false_T}
use Rattle.planner.proofs.Whether.{whether_as}
use Rattle.planner.proofs.Listing.{pairs_listed}

-- ---- one set in another
pub or_sub : (x y : ℕ) → bit_or x y ≡ y → Sub x y
or_sub x y e j t = subst (λ (n : ℕ). T (has n j)) e (rw (or_has x y j) (or_left (has x j) (has y j) t))

pub sub_or : (x y : ℕ) → Sub x y → bit_or x y ≡ y
sub_or x y s = digits_same (bit_or x y) y (λ j. or_has x y j ∙ same_test _ (has y j) (λ t. ⊎_elim (s j) (λ u. u) (or_split (has x j) (has y j) t)) (or_right (has x j) (has y j)))

-- the jobs held, without one
pub others : (size b all held : ℕ) → size ≤ 64 → Below size all → Without all b held → (j : ℕ) → T (has held j) ↔ ((j < size) × (j ≡ b → ⊥))
others size b all held few x y j =
    let s = says_and (says_lt j size) (says_not (says_eq j b)) in
    rw (y j, below_in size all few x j) (s.read, s.write)

-- the set of a job beyond those held, and of a job held
module _ (size : ℕ) (before : List ℕ) (b : ℕ) where
  pub beyond_chained : size ≤ b → get_or before b 0 ≡ 0 → ChainedAt size before b
  beyond_chained h e = record { inside = λ a t. absurd (none a t); free = λ t. none b t; joins = λ a t. absurd (none a t) }
    where
      none : (a : ℕ) → T (has (get_or before b 0) a) → ⊥
      none a t = has_some _ a t e

  pub chained_beyond : size ≤ b → ChainedAt size before b → get_or before b 0 ≡ 0
  chained_beyond h x = none_is (get_or before b 0) (λ a t. omega (arith, (x.inside a t).1))

  module _ (all held : ℕ) (few : size ≤ 64) (x : Below size all) (y : Without all b held) where
    pub part_chained : b < size → Sub (get_or before b 0) held → ((a : ℕ) → T (has (get_or before b 0) a) → Sub (get_or before a 0) (get_or before b 0)) → ChainedAt size before b
    part_chained h s f = record {
      inside = λ a t. (((others size b all held few x y a).0 (s a t)).0, h);
      free = λ t. ((others size b all held few x y b).0 (s b t)).1 refl;
      joins = f;
    }

-- ---- a row, its front and what is beyond
module _ (size limit : ℕ) (row : List ℕ) (few : size ≤ 64) (long : length row ≡ 64) where
  pub limits_split : ((i : ℕ) → i < length (take size row) → get_or (take size row) i 0 ≤ limit) → ((i : ℕ) → i < length (drop size row) → get_or (drop size row) i 0 ≤ 0) → Limits size limit row
  limits_split front beyond = record {
    low = λ i l. rw (← get_or-take size row i 0 l) (front i (omega (arith, length-take-le size row (omega arith))));
    rest = λ i l. ⊎_elim
        (λ le. get_or-eq_default row 0 (omega arith))
        (λ lt. let e : get_or (drop size row) (i - size) 0 ≡ get_or row i 0 = get_or-drop size row (i - size) 0 ∙ ap (λ (j : ℕ). get_or row j 0) (omega arith) in omega (arith, e, beyond (i - size) (omega (arith, length-drop size row))))
        (le_or_lt 64 i);
  }

  pub limits_beyond : Limits size limit row → (i : ℕ) → i < length (drop size row) → get_or (drop size row) i 0 ≤ 0
  limits_beyond x i l = omega (arith, get_or-drop size row i 0, x.rest (size + i) (omega arith))

-- ---- the sets
module _ (size : ℕ) (start before : List ℕ) (few : size ≤ 64) (x : (b : ℕ) → b < 64 → ChainedAt size before b) where
  pub chained_closed : Closed (jobs_in size start before)
  chained_closed = record { joins = λ a b c la lb lc s t. (x c (omega arith)).joins b t a s }

  pub chained_loopless : Loopless (jobs_in size start before)
  chained_loopless = record { never = λ a la t. (x a (omega arith)).free t }

  pub chained_inside : length before ≡ 64 → (a b : ℕ) → T (has (get_or before b 0) a) → (a < size) × (b < size)
  chained_inside long a b t = ⊎_elim
      (λ le. absurd (false_T _ (ap (λ (n : ℕ). has n a) (get_or-eq_default before 0 (omega arith)) ∙ empty_has a) t))
      (λ lt. (x b lt).inside a t) (le_or_lt 64 b)

-- ---- the latest times
-- a regular book in lent memory
module _ (times before : List ℕ) (long : length times ≡ 129) (long_before : length before ≡ 64) (w : Regular (book_in times before)) where
  abbrev k : Book
  k = book_in times before

  pub starts_long : length k.start ≡ 64
  starts_long = part_length 1 times (omega (arith, long))

  pub latest_long : length k.latest ≡ 64
  latest_long = part_length 65 times (omega (arith, long))

  -- its rows may be tightened
  pub regular_ready : Startable k.size k.start k.before
  regular_ready = record {
    few = w.few;
    long = omega (arith, starts_long, w.few);
    starts = λ i l. omega (arith, w.starts.low i l);
    closed = chained_closed k.size k.start k.before w.few w.chained;
    loopless = chained_loopless k.size k.start k.before w.few w.chained;
    inside = chained_inside k.size k.start k.before w.few w.chained long_before;
  }

  module _ (next : List ℕ) (fits : Bool) (t : Tightens cores k.size k.start k.before k.latest next fits) where
    first : (early : ℕ → ℕ) × Earliest (jobs_of k) early
    first = exists_earliest (jobs_of k) regular_ready.closed regular_ready.loopless

    steady_yes : fits ≡ true → k.latest ≡ next → Steady k
    steady_yes y s early e = rw s (t.latest y early e).consistent

    steady_same : fits ≡ true → Steady k → k.latest ≡ next
    steady_same y s =
        let tight = t.latest y first.0 first.1 in
        ext_get_or 0 k.latest next (latest_long ∙ sym t.length)
        (λ i l. ⊎_elim (λ le. sym (t.rest y i le)) (λ lt. le_antisymm (tight.greatest (latest_of k) (s first.0 first.1) (λ j h. omega arith) i lt) (tight.beneath i lt)) (le_or_lt k.size i))

    -- nothing changed
    pub steady_whether : fits ≡ true → {r : Bool} → Whether (k.latest ≡ next) r → Whether (Steady k) r
    steady_whether y = whether_as (steady_yes y) (steady_same y)

    pub steady_none : fits ≡ false → Steady k → ⊥
    steady_none n s = t.none n (row_has_plan 2 (jobs_of k) first.0 (latest_of k) (omega arith) (omega arith) regular_ready.closed first.1 (s first.0 first.1))

  -- ---- the list that the book spells: its starts, its latest times as deadlines, every pair as an order
  listing : (o : List (ℕ × ℕ)) × ((a b : ℕ) → T (ordered o a b) ↔ T (has (get_or k.before b 0) a))
  listing = pairs_listed k.size (λ a b. has (get_or k.before b 0) a) regular_ready.inside

  spelled : Listed
  spelled = record { starts = take k.size k.start; deadlines = take k.size k.latest; orders = listing.0 }

  chain_in : {a b : ℕ} → Chain listing.0 a b → T (has (get_or k.before b 0) a)
  chain_in (link {a = a} {b = b} t) = (listing.1 a b).0 t
  chain_in (join {a = a} {b = b} {c = c} s t) =
      let x = chain_in s in
      let y = chain_in t in
      regular_ready.closed.joins a b c (regular_ready.inside a b x).0 (regular_ready.inside a b x).1 (regular_ready.inside b c y).1 x y

  cut : (row : List ℕ) → length row ≡ 64 → length (take k.size row) ≡ k.size
  cut row l = length-take-le k.size row (omega (arith, w.few))

  -- it is told by the book
  pub steady_made : Steady k → Made k
  unfolding spelled written
  steady_made steady =
      let n = cut k.start starts_long in
      let e = exists_earliest (jobs_of k) regular_ready.closed regular_ready.loopless in (
        spelled,
        record {
          shaped = record {
            few = w.few;
            starts = starts_long;
            latests = latest_long;
            befores = long_before;
            start_rest = w.starts.rest;
            latest_rest = w.latests.rest;
            before_rest = regular_ready.inside;
          };
          limited = record {
            start = λ i l. rw (get_or-take k.size k.start i 0 (omega arith)) (w.starts.low i (omega arith));
            deadline = λ i l. rw (get_or-take k.size k.latest i 0 (omega arith)) (w.latests.low i (omega arith));
          };
          holds = record {
            formed = record {
              even = cut k.latest latest_long ∙ sym n;
              held = λ a b t. let h = regular_ready.inside a b ((listing.1 a b).0 t) in (omega arith, omega arith);
            };
            loopless = λ x. let t = chain_in x.1 in regular_ready.loopless.never x.0 (regular_ready.inside x.0 x.0 t).0 t;
            reads = record {
              size = sym n;
              start = λ i l. sym (get_or-take k.size k.start i 0 l);
              before = λ a b la lb. ((λ t. link ((listing.1 a b).1 t)), (λ c. chain_in c));
            };
            early = e.0;
            earliest = e.1;
            latest = record {
              consistent = steady e.0 e.1;
              beneath = λ i l. omega (arith, get_or-take k.size k.latest i 0 l);
              greatest = λ other c h i l. omega (arith, h i l, get_or-take k.size k.latest i 0 l);
            };
          };
        },
      )

-- ---- and what any book made by requests has
-- a book made by requests is regular and steady
module _ (k : Book) (m : Made k) where
  pub made_regular : Regular k
  made_regular =
      let L = m.0 in
      let t = m.1 in
      let h = t.holds in
      let held = t.shaped.before_rest in record {
        few = t.shaped.few;
        starts = record { low = λ i l. omega (arith, h.reads.start i l, t.limited.start i (omega (arith, h.reads.size))); rest = t.shaped.start_rest };
        latests = record { low = λ i l. omega (arith, h.latest.beneath i l, t.limited.deadline i (omega (arith, h.reads.size))); rest = t.shaped.latest_rest };
        chained = λ b l. record {
          inside = λ a x. held a b x;
          free = λ x. (reads_loopless L (jobs_of k) h.reads h.loopless).never b (held b b x).0 x;
          joins = λ a x c y. (reads_closed L (jobs_of k) h.reads).joins c a b (held c a y).0 (held a b x).0 (held a b x).1 y x;
        };
      }

  pub made_steady : Steady k
  made_steady early e =
      let h = m.1.holds in
      (latest_any 2 (jobs_of k) h.early early (written m.0) (latest_of k) h.earliest e h.latest).consistent

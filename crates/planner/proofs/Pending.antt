-- Rows of sets with an order pending; nothing pending changes nothing.
-- Assumes nothing.
use mathlib.Core.Bool.{Bool, ◌||◌}
use mathlib.Core.List.{List}
use mathlib.Core.Logic.{◌↔◌, ◌⊎◌, inl, inr, ⊎_elim}
use mathlib.Core.Path.{◌≡◌, refl, sym, ap, ◌∙◌}
use Prim.Native.Nat.{ℕ, ◌≤◌, ◌<◌}
use native.Mathlib.Omega.{arith}
use lib.Bits.{bit_or, or_zero_r}
use lib.Dec.{T, eqb, eqb→eq}
use lib.ListN.{length, get_or, get_or-eq_default}
use Rattle.std.proofs.lemmas.List.FromFn.{length-map-range_with_len, get_or-map-range_with_len, fill_by_all}
use Rattle.schedule.proofs.Tests.{le_or_lt, cond_case, or_left, or_right, or_split, eq→eqb}
use Rattle.schedule.specs.Listed.{Listed, with_order}
use Rattle.planner.specs.declared.chains.Pending.{Pending}
use Rattle.sets.specs.Sets.{has, With}
use Rattle.book.specs.Told.{Book, Told}
use Rattle.planner.specs.Inner.Chains.{Links, nothing, joined_of, joined_rows}
use Rattle.planner.specs.Inner.Tighten.{Tightens}
use Rattle.planner.specs.Inner.Tighten.Early.{Startable}
use Rattle.sets.proofs.Bits.{or_has, empty_has}
use Rattle.sets.proofs.Range.{with_in}
use Rattle.planner.proofs.Growing.{Grows, order_grows, false_T}

-- what a joined row has
in_joined : (row y : ℕ) (p : Pending) (x : ℕ) → T (has (joined_of row y p) x) ↔ (T (has row x) ⊎ (T (has p.more x) × ((p.job.0 ≡ y) ⊎ T (has row p.job.0))))
in_joined row y p x =
    let b = p.job.0 in
    let more = p.more in
    cond_case (λ n. T (has n x) ↔ (T (has row x) ⊎ (T (has more x) × ((b ≡ y) ⊎ T (has row b))))) (has row b || eqb b y) (bit_or row more) row
    (λ q. (
      (λ t. ⊎_elim (λ u. inl u) (λ u. inr (u, ⊎_elim (λ v. inr v) (λ v. inl (eqb→eq b y v)) (or_split (has row b) (eqb b y) q))) (or_split (has row x) (has more x) (rw (or_has row more x) at t))),
      (λ t. rw (or_has row more x) (⊎_elim (λ u. or_left (has row x) (has more x) u) (λ u. or_right (has row x) (has more x) u.0) t)),
    ))
    (λ f. (
      (λ t. inl t),
      (λ t. ⊎_elim (λ u. u) (λ u. absurd (f (⊎_elim (λ e. or_right (has row b) (eqb b y) (eq→eqb b y e)) (λ v. or_left (has row b) (eqb b y) v) u.1))) t),
    ))

-- a row without the job of the order, that is not the row of the job, stays
pub joined_same : (row y : ℕ) (p : Pending) → (T (has row p.job.0) → ⊥) → (p.job.0 ≡ y → ⊥) → joined_of row y p ≡ row
joined_same row y p f g =
    let b = p.job.0 in
    let more = p.more in
    cond_case (λ n. n ≡ row) (has row b || eqb b y) (bit_or row more) row
    (λ q. absurd (⊎_elim f (λ u. g (eqb→eq b y u)) (or_split (has row b) (eqb b y) q)))
    (λ h. refl)

-- nothing pending changes no row
joined_nothing : (row y : ℕ) → joined_of row y nothing ≡ row
joined_nothing row y = cond_case (λ n. n ≡ row) (has row 0 || eqb 0 y) (bit_or row 0) row (λ q. or_zero_r row) (λ h. refl)

-- ---- all rows joined
module _ (rows : List ℕ) (p : Pending) where
  abbrev joins : ℕ → ℕ
  joins y = joined_of (get_or rows y 0) y p

  pub rows_long : length (joined_rows rows p) ≡ 64
  unfolding joined_rows
  rows_long = length-map-range_with_len joins 0 64

  pub rows_at : (y : ℕ) → y < 64 → get_or (joined_rows rows p) y 0 ≡ joins y
  unfolding joined_rows
  rows_at y h = get_or-map-range_with_len joins 0 64 y y 0 h (omega arith)

  pub rows_are : (next : List ℕ) → length next ≡ 64 → ((y : ℕ) → y < 64 → get_or next y 0 ≡ joins y) → next ≡ joined_rows rows p
  unfolding joined_rows
  rows_are next = fill_by_all joins next 64 0

  -- what a row has it keeps
  pub rows_keep : (y x : ℕ) → y < 64 → T (has (get_or rows y 0) x) → T (has (get_or (joined_rows rows p) y 0) x)
  rows_keep y x l t = rw (rows_at y l) ((in_joined (get_or rows y 0) y p x).1 (inl t))

-- nothing pending
pub rows_same : (rows : List ℕ) → length rows ≡ 64 → joined_rows rows nothing ≡ rows
rows_same rows l = sym (rows_are rows nothing rows l (λ y h. sym (joined_nothing (get_or rows y 0) y)))

pub nothing_low : (p : Pending) → p ≡ nothing → p.job.0 < 64
nothing_low p e = rw e (omega arith)

pub nothing_ready : (size : ℕ) (start before : List ℕ) (p : Pending) → p ≡ nothing → length before ≡ 64 → Startable size start before → Startable size start (joined_rows before p)
nothing_ready size start before p e l t = rw (e, rows_same before l) t

pub nothing_tight : (m size : ℕ) (start before row next : List ℕ) (fits : Bool) (p : Pending) → p ≡ nothing → length before ≡ 64 → Tightens m size start (joined_rows before p) row next fits → Tightens m size start before row next fits
nothing_tight m size start before row next fits p e l t = rw (e, rows_same before l) at t

-- a and all that precedes a
pub joined_links : (rows : List ℕ) (a : ℕ) (p : Pending) → length rows ≡ 64 → p.job.0 < 64 → a < 64 → With (get_or rows a 0) a p.more → Links a p.job.0 rows (joined_rows rows p)
joined_links rows a p lr hb la w x y = go (le_or_lt 64 y)
  where
    m : (x : ℕ) → has p.more x ≡ (has (get_or rows a 0) x || eqb x a)
    m = with_in (get_or rows a 0) a p.more la w

    in_more : (x : ℕ) → T (has p.more x) ↔ ((x ≡ a) ⊎ T (has (get_or rows a 0) x))
    in_more x = (
      (λ t. ⊎_elim (λ u. inr u) (λ u. inl (eqb→eq x a u)) (or_split (has (get_or rows a 0) x) (eqb x a) (rw (m x) at t))),
      (λ t. rw (m x) (⊎_elim (λ u. or_right (has (get_or rows a 0) x) (eqb x a) (eq→eqb x a u)) (λ u. or_left (has (get_or rows a 0) x) (eqb x a) u) t)),
    )

    no_row : (l : List ℕ) → length l ≡ 64 → 64 ≤ y → (j : ℕ) → T (has (get_or l y 0) j) → ⊥
    no_row l e le j t = false_T _ (ap (λ (n : ℕ). has n j) (get_or-eq_default l 0 (omega arith)) ∙ empty_has j) t

    go : (64 ≤ y) ⊎ (y < 64) → T (has (get_or (joined_rows rows p) y 0) x) ↔ (T (has (get_or rows y 0) x) ⊎ (((x ≡ a) ⊎ T (has (get_or rows a 0) x)) × ((p.job.0 ≡ y) ⊎ T (has (get_or rows y 0) p.job.0))))
    go (inl le) = (
      (λ t. absurd (no_row (joined_rows rows p) (rows_long rows p) le x t)),
      (λ t. absurd (⊎_elim (λ u. no_row rows lr le x u) (λ u. ⊎_elim (λ e. omega arith) (λ v. no_row rows lr le p.job.0 v) u.1) t)),
    )
    go (inr lt) = rw (rows_at rows p y lt) (
      (λ t. ⊎_elim (λ u. inl u) (λ u. inr ((in_more x).0 u.0, u.1)) ((in_joined (get_or rows y 0) y p x).0 t)),
      (λ t. (in_joined (get_or rows y 0) y p x).1 (⊎_elim (λ u. inl u) (λ u. inr ((in_more x).1 u.0, u.1)) t)),
    )

-- a book whose rows have the order
pub pending_grows : (L : Listed) (k : Book) → Told k L → (a : ℕ) (p : Pending) → a < k.size → p.job.0 < k.size → With (get_or k.before a 0) a p.more →
    (a ≡ p.job.0 → ⊥) → (T (has (get_or k.before a 0) p.job.0) → ⊥) → Grows (with_order L a p.job.0) (record { size = k.size; start = k.start; latest = k.latest; before = joined_rows k.before p })
pending_grows L k t a p la lb m =
    order_grows L k t a p.job.0 la lb (joined_rows k.before p) (rows_long k.before p) (joined_links k.before a p t.shaped.befores (omega (arith, t.shaped.few)) (omega (arith, t.shaped.few)) m)

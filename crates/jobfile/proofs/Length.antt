-- How long a book's file is: the pairs by first are the pairs by second, and of two jobs one at most precedes the other.
-- Assumes nothing.
use mathlib.Core.Bool.{Bool, true, false, cond, ◌||◌}
use mathlib.Core.List.{List, [], ◌∷◌}
use mathlib.Core.Path.{◌≡◌, refl, sym, ap, ap₂, ◌∙◌}
use Prim.Native.Nat.{ℕ, zero, suc, ◌+◌, ◌*◌, ◌≤◌, ◌<◌}
use native.Mathlib.Nat.{le_antisymm, le_of_eq, lt_of_lt_of_le}
use native.Mathlib.Numerals.{add-one}
use native.Mathlib.Omega.{arith}
use lib.Dec.{T}
use lib.ListN.{length, get_or, take, length-append}
use Rattle.std.proofs.lemmas.List.Sums.{sum_by_more}
use Rattle.schedule.specs.Count.{one, count}
use Rattle.schedule.specs.Listed.{Listed}
use Rattle.schedule.proofs.Counting.{count_inject, count_longer, count_lt, count_bound}
use Rattle.schedule.specs.Theory.Sum.{sum}
use Rattle.schedule.proofs.Rows.{sum_mono}
use Rattle.book.specs.Told.{Book, Told}
use Rattle.records.specs.declared.Record.{Record}
use Rattle.sets.specs.Sets.{has}
use Rattle.jobfile.specs.Writer.{gather, job_record, order_record, follower_records, records_of, file_of}
use Rattle.jobfile.specs.Inner.Writer.{pairs_in}
use Rattle.jobfile.proofs.Bytes.{all_length}
use Rattle.jobfile.proofs.Part.{loopless}

-- ---- sums
sum_same : (n : ℕ) (f g : ℕ → ℕ) → ((i : ℕ) → i < n → f i ≡ g i) → sum n f ≡ sum n g
sum_same n f g h = le_antisymm (sum_mono n f g (λ i l. le_of_eq (h i l))) (sum_mono n g f (λ i l. le_of_eq (sym (h i l))))

sum_zero : (n : ℕ) → sum n (λ i. 0) ≡ 0
unfolding sum
sum_zero zero = refl
sum_zero (suc n) = omega (arith, sum_zero n)

sum_one : (n : ℕ) → sum n (λ i. 1) ≡ n
unfolding sum
sum_one zero = refl
sum_one (suc n) = omega (arith, sum_one n)

sum_add : (n : ℕ) (f g : ℕ → ℕ) → sum n (λ i. f i + g i) ≡ sum n f + sum n g
unfolding sum
sum_add zero f g = refl
sum_add (suc n) f g = omega (arith, sum_add n f g)

sum_bound : (n : ℕ) (f : ℕ → ℕ) → ((i : ℕ) → i < n → f i ≤ 63) → sum n f ≤ 63 * n
unfolding sum
sum_bound zero f h = omega arith
sum_bound (suc n) f h = omega (arith, h n (omega arith), sum_bound n f (λ i l. h i (omega arith)))

sum_swap : (n m : ℕ) (g : ℕ → ℕ → ℕ) → sum n (λ a. sum m (g a)) ≡ sum m (λ b. sum n (λ a. g a b))
unfolding sum
sum_swap zero m g = sym (sum_zero m)
sum_swap (suc n) m g = ap (λ (x : ℕ). sum m (g n) + x) (sum_swap n m g) ∙ sym (sum_add m (g n) (λ b. sum n (λ a. g a b)))

count_sum : (n : ℕ) (p : ℕ → Bool) → count n p ≡ sum n (λ i. one (p i))
unfolding count sum
count_sum zero p = refl
count_sum (suc n) p = ap (λ (x : ℕ). one (p n) + x) (count_sum n p)

-- of two tests one at most holds
one_either : (x y : Bool) → (T x → T y → ⊥) → one x + one y ≡ one (x || y)
one_either true true f = absurd (f tt tt)
one_either true false f = refl
one_either false true f = refl
one_either false false f = refl

neither : (x y : Bool) → (T x → ⊥) → (T y → ⊥) → T (x || y) → ⊥
neither true y f g z = f tt
neither false y f g z = g z

-- ---- the sizes of the sets together
abbrev pub pairs : ℕ → List ℕ → ℕ
pairs n before = sum n (λ b. count 64 (has (get_or before b 0)))

-- of the first sets, as the code adds them up
pub pairs_taken : (n : ℕ) (before : List ℕ) → n ≤ length before → pairs_in (take n before) ≡ pairs n before
unfolding sum
pairs_taken zero before h = refl
pairs_taken (suc n) before h =
    ap (λ m. pairs_in (take m before)) (sym (add-one n)) ∙ sum_by_more (λ set. count 64 (has set)) before n 0 h
    ∙ omega (arith, pairs_taken n before (omega arith))

-- ---- what is gathered
gather_length : {A : Type 0} (n : ℕ) (f : ℕ → List A) → length (gather n f) ≡ sum n (λ i. length (f i))
unfolding gather sum
gather_length zero f = refl
gather_length (suc n) f = length-append (gather n f) (f n) ∙ omega (arith, gather_length n f)

order_length : (x : Bool) (r : Record) → length (cond x (r ∷ []) []) ≡ one x
order_length true r = refl
order_length false r = refl

module _ (k : Book) where
  abbrev precedes : ℕ → ℕ → Bool
  precedes a b = has (get_or k.before b 0) a

  jobs_length : length (gather k.size (job_record k.start k.latest)) ≡ k.size
  jobs_length = gather_length k.size (job_record k.start k.latest) ∙ sum_one k.size

  module _ (L : Listed) (t : Told k L) where
    -- no set has a job that is not held
    members : (b : ℕ) → count 64 (λ a. precedes a b) ≡ sum k.size (λ a. one (precedes a b))
    members b =
        le_antisymm (count_inject 64 k.size (λ a. precedes a b) (λ a. precedes a b) (λ a. a) (λ a l x. ((t.shaped.before_rest a b x).0, x)) (λ i j li lj e. e))
        (count_longer k.size 64 (λ a. precedes a b) t.shaped.few)
        ∙ count_sum k.size (λ a. precedes a b)

    pairs_by_second : pairs k.size k.before ≡ sum k.size (λ b. sum k.size (λ a. one (precedes a b)))
    pairs_by_second = sum_same k.size _ _ (λ b l. members b)

    pairs_by_first : pairs k.size k.before ≡ sum k.size (λ a. sum k.size (λ b. one (precedes a b)))
    pairs_by_first = pairs_by_second ∙ sum_swap k.size k.size (λ b a. one (precedes a b))

    -- those that precede a job and those that it precedes: all but itself
    row_few : (b : ℕ) → b < k.size → sum k.size (λ a. one (precedes a b)) + sum k.size (λ a. one (precedes b a)) ≤ 63
    row_few b l =
        let either : ℕ → Bool = λ a. precedes a b || precedes b a in
        let both = sym (sum_add k.size (λ a. one (precedes a b)) (λ a. one (precedes b a)))
        ∙ sum_same k.size _ _ (λ a h. one_either (precedes a b) (precedes b a) (loopless k L t a b)) ∙ sym (count_sum k.size either) in
        let fewer = lt_of_lt_of_le (count_lt k.size either (λ i. true) b l (λ i h x. tt) tt (neither (precedes b b) (precedes b b) (λ x. loopless k L t b b x x) (λ x. loopless k L t b b x x)))
        (count_bound k.size (λ i. true)) in
        omega (arith, both, fewer, t.shaped.few)

    pub pairs_few : 2 * pairs k.size k.before ≤ 63 * k.size
    pairs_few =
        let twice = sum_add k.size (λ b. sum k.size (λ a. one (precedes a b))) (λ b. sum k.size (λ a. one (precedes b a))) in
        omega (arith, pairs_by_first, pairs_by_second, twice, sum_bound k.size _ row_few)

    orders_length : length (gather k.size (follower_records k.size k.before)) ≡ pairs k.size k.before
    orders_length =
        gather_length k.size (follower_records k.size k.before)
        ∙ sum_same k.size _ _ (λ a l. gather_length k.size (order_record k.before a) ∙ sum_same k.size _ _ (λ b h. order_length (precedes a b) _))
        ∙ sym pairs_by_first

    pub file_length : length (file_of k) ≡ 6 * (k.size + pairs k.size k.before)
    unfolding file_of records_of
    file_length =
        all_length (records_of k)
        ∙ ap (λ (n : ℕ). 6 * n) (length-append (gather k.size (job_record k.start k.latest)) _ ∙ ap₂ (λ (x y : ℕ). x + y) jobs_length orders_length)

    -- 64 jobs and 2,016 pairs
    pub file_short : length (file_of k) ≤ 12480
    file_short = omega (arith, file_length, pairs_few, t.shaped.few)

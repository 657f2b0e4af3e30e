-- The records that a book is written as: each comes next, and together they tell the book.
-- Assumes nothing.
use mathlib.Core.Bool.{Bool, true, false, cond}
use mathlib.Core.List.{List, [], ◌∷◌, ◌++◌}
use mathlib.Core.Logic.{inl, inr, ⊎_elim}
use mathlib.Core.Path.{◌≡◌, refl, sym, ◌∙◌}
use Prim.Native.Nat.{ℕ, zero, suc, ◌≤◌, ◌<◌}
use native.Mathlib.Nat.{le_of_eq, le_refl}
use native.Mathlib.Omega.{arith}
use lib.Dec.{T}
use lib.ListN.{length, get_or, length-append}
use Rattle.schedule.specs.Listed.{Listed, ordered, link, written, with_job, with_order, with_deadline}
use Rattle.schedule.proofs.Chains.{ordered_append}
use Rattle.schedule.proofs.Grow.{latest_keeps}
use Rattle.schedule.proofs.Search.{split_last}
use Rattle.records.specs.declared.Record.{Record}
use Rattle.records.specs.declared.Record.TheVariants.{Job, Order, Deadline}
use Rattle.sets.specs.Sets.{has}
use Rattle.book.specs.Told.{Book, jobs_of, latest_of, Told, nothing_listed}
use Rattle.planner.specs.Requests.{grow}
use Rattle.jobfile.specs.Reader.{asks}
use Rattle.jobfile.specs.Writer.{gather, job_record, order_record, follower_records, records_of}
use Rattle.jobfile.proofs.Part.{Part, Next, part_nothing, next_part, part_chain, loopless, start_low, latest_high}

-- the list once the records are entered
unfoldable pub grown : Listed → List Record → Listed
grown M [] = M
grown M (q ∷ rest) = grown (grow M (asks q)) rest

grown_append : (M : Listed) (xs ys : List Record) → grown M (xs ++ ys) ≡ grown (grown M xs) ys
unfolding grown
grown_append M [] ys = refl
grown_append M (q ∷ xs) ys = grown_append (grow M (asks q)) xs ys

-- each record comes next
pub data Fits (k : Book) : Listed → List Record → Type 0 where
  done : {M : Listed} → Fits k M []
  next : {M : Listed} {q : Record} {rest : List Record} → Next k M q → Fits k (grow M (asks q)) rest → Fits k M (q ∷ rest)

fits_append : (k : Book) (M : Listed) (xs ys : List Record) → Fits k M xs → Fits k (grown M xs) ys → Fits k M (xs ++ ys)
unfolding grown
fits_append k M [] ys done y = y
fits_append k M (q ∷ xs) ys (next x rest) y = next x (fits_append k (grow M (asks q)) xs ys rest y)

pub fits_part : (k : Book) (L : Listed) (t : Told k L) (M : Listed) (qs : List Record) → Part k M → Fits k M qs → Part k (grown M qs)
unfolding grown
fits_part k L t M [] p done = p
fits_part k L t M (q ∷ qs) p (next x rest) = fits_part k L t (grow M (asks q)) qs (next_part k L t M q p x) rest

-- ---- the jobs, one after the other
module _ (k : Book) where
  abbrev jobs_upto : ℕ → List Record
  jobs_upto n = gather n (job_record k.start k.latest)

  jobs_fit : (n : ℕ) → n ≤ k.size → Fits k nothing_listed (jobs_upto n) × (length (grown nothing_listed (jobs_upto n)).starts ≡ n)
  unfolding gather grown with_job
  jobs_fit zero h = (done, refl)
  jobs_fit (suc n) h =
      let ih = jobs_fit n (omega arith) in
      let M = grown nothing_listed (jobs_upto n) in (
        fits_append k nothing_listed (jobs_upto n) _ ih.0 (next (omega (arith, ih.1), rw ih.1 refl, rw ih.1 refl) done),
        rw (grown_append nothing_listed (jobs_upto n) _) (length-append M.starts _ ∙ omega (arith, ih.1)),
      )

  -- ---- the orders
  -- what holds of a list with all jobs, whatever orders it has, holds of what gathers
  module _ (f : ℕ → List Record) (fits : (i : ℕ) (M : Listed) → k.size ≤ length M.starts → Fits k M (f i) × (k.size ≤ length (grown M (f i)).starts)) where
    gather_fits : (n : ℕ) (M : Listed) → k.size ≤ length M.starts → Fits k M (gather n f) × (k.size ≤ length (grown M (gather n f)).starts)
    unfolding gather grown
    gather_fits zero M h = (done, h)
    gather_fits (suc n) M h =
        let ih = gather_fits n M h in
        let last = fits n (grown M (gather n f)) ih.1 in
        (fits_append k M (gather n f) (f n) ih.0 last.0, rw (grown_append M (gather n f) (f n)) last.1)

  order_fits : (a b : ℕ) (M : Listed) → k.size ≤ length M.starts → Fits k M (order_record k.before a b) × (k.size ≤ length (grown M (order_record k.before a b)).starts)
  order_fits a b M h = go (has (get_or k.before b 0) a) (λ x. x)
    where
      q : Record
      q = Order a b

      go : (x : Bool) → (T x → T ((jobs_of k).before a b)) → Fits k M (cond x (q ∷ []) []) × (k.size ≤ length (grown M (cond x (q ∷ []) [])).starts)
      go true f = (next {q = q} (h, f tt) done, unfold grown with_order in h)
      go false f = (done, unfold grown in h)

  pub records_fit : Fits k nothing_listed (records_of k) × (k.size ≤ length (grown nothing_listed (records_of k)).starts)
  unfolding records_of
  records_fit =
      let jobs = jobs_fit k.size (le_refl k.size) in
      let orders = gather_fits (follower_records k.size k.before) (λ a. gather_fits (order_record k.before a) (order_fits a) k.size) k.size (grown nothing_listed (jobs_upto k.size)) (le_of_eq (sym jobs.1)) in
      (fits_append k nothing_listed (jobs_upto k.size) _ jobs.0 orders.0, rw (grown_append nothing_listed (jobs_upto k.size) (gather k.size (follower_records k.size k.before))) orders.1)

  -- ---- every order of the book is among them
  module _ (a b : ℕ) where
    abbrev Covers : Listed → Type 0
    Covers M = T (ordered M.orders a b)

    grow_keeps : (M : Listed) (q : Record) → Covers M → Covers (grow M (asks q))
    unfolding with_job with_order with_deadline
    grow_keeps M (Job s d) x = x
    grow_keeps M (Order c d) x = (ordered_append M.orders c d a b).1 (inl x)
    grow_keeps M (Deadline j d) x = x

    grown_keeps : (M : Listed) (qs : List Record) → Covers M → Covers (grown M qs)
    unfolding grown
    grown_keeps M [] x = x
    grown_keeps M (q ∷ qs) x = grown_keeps (grow M (asks q)) qs (grow_keeps M q x)

    gather_covers : (f : ℕ → List Record) (i n : ℕ) → i < n → ((M : Listed) → Covers (grown M (f i))) → (M : Listed) → Covers (grown M (gather n f))
    unfolding gather
    gather_covers f i zero l h M = absurd (omega arith)
    gather_covers f i (suc n) l h M = rw (grown_append M (gather n f) (f n)) (⊎_elim
        (λ e. rw e at (h (grown M (gather n f))))
        (λ lt. grown_keeps (grown M (gather n f)) (f n) (gather_covers f i n lt h M))
        (split_last l))

    order_covers : T (has (get_or k.before b 0) a) → (M : Listed) → Covers (grown M (order_record k.before a b))
    order_covers x M = go (has (get_or k.before b 0) a) x
      where
        go : (y : Bool) → T y → Covers (grown M (cond y (Order a b ∷ []) []))
        go true y = unfold grown with_order in ((ordered_append M.orders a b a b).1 (inr (refl, refl)))
        go false y = absurd y

    records_cover : a < k.size → b < k.size → T ((jobs_of k).before a b) → Covers (grown nothing_listed (records_of k))
    unfolding records_of
    records_cover la lb x = rw (grown_append nothing_listed (jobs_upto k.size) (gather k.size (follower_records k.size k.before)))
        (gather_covers (follower_records k.size k.before) a k.size la (gather_covers (order_record k.before a) b k.size lb (order_covers x)) (grown nothing_listed (jobs_upto k.size)))

  -- ---- the book holds the list that they make
  abbrev pub retold : Listed
  retold = grown nothing_listed (records_of k)

  module _ (L : Listed) (t : Told k L) where
    part : Part k retold
    part = fits_part k L t nothing_listed (records_of k) (part_nothing k) records_fit.0

    all : k.size ≡ length retold.starts
    all = omega (arith, part.fewer, records_fit.1)

    pub told_again : Told k retold
    told_again = record {
      shaped = t.shaped;
      limited = record {
        start = λ i l. omega (arith, part.start i l, start_low k L t i (omega (arith, all)));
        deadline = λ i l. omega (arith, part.deadline i l, latest_high k L t i (omega (arith, all)));
      };
      holds = record {
        formed = record { even = part.even; held = part.held };
        loopless = λ x. let y = part_chain k L t retold part x.1 in loopless k L t x.0 x.0 y y;
        reads = record {
          size = all;
          start = λ i l. sym (part.start i (omega (arith, all)));
          before = λ a b la lb. ((λ x. link (records_cover a b la lb x)), (λ x. part_chain k L t retold part x));
        };
        early = t.holds.early;
        earliest = t.holds.earliest;
        latest = latest_keeps 2 (jobs_of k) t.holds.early (written L) (written retold) (latest_of k)
            (λ i l. omega (arith, part.deadline i (omega (arith, all)), t.holds.latest.beneath i l)) (λ i l. le_of_eq (sym (part.deadline i (omega (arith, all))))) t.holds.latest;
      };
    }

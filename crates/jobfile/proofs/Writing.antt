-- A book written out: what the code stores is the file, 12,480 bytes are enough, and writing has one outcome.
-- Assumes nothing.
use mathlib.Core.Bool.{cond}
use mathlib.Core.List.{List, [], ◌∷◌, ◌++◌}
use mathlib.Core.Path.{◌≡◌, refl, sym, ap, ap₂, ◌∙◌}
use Prim.Native.Nat.{ℕ, ◌+◌, ◌*◌, ◌≤◌, ◌<◌}
use native.Mathlib.Nat.{zero-add}
use native.Mathlib.Omega.{arith}
use lib.ListN.{length, drop, take, length-take, length-append}
use lib.Seq.{sets, sets-eq, take_at, get_or-take}
use Rattle.book.specs.Told.{Book, Made}
use Rattle.std.specs.Prelude.{Result}
use Rattle.refusal.specs.declared.Refusal.{Refusal}
use Rattle.refusal.specs.Says.{Says}
use Rattle.refusal.specs.Table.{refused, passed}
use Rattle.refusal.proofs.Says.{says_told, says_only}
use Rattle.refusal.proofs.Table.{table_one, table_free, table_past}
use Rattle.records.specs.declared.Record.TheVariants.{Job, Order}
use Rattle.sets.specs.Sets.{has}
use Rattle.jobfile.specs.declared.writer.Written.{Written}
use Rattle.jobfile.specs.Writer.{gather, bytes_of_all, job_record, follower_records, records_of, file_of, Output, output, WritesBook, Enough}
use Rattle.jobfile.specs.Inner.Writer.{pairs_in, jobs_bytes, orders_bytes, Continues}
use Rattle.jobfile.proofs.Bytes.{all_append, gather_same, continues_then}
use Rattle.jobfile.proofs.Length.{pairs_taken, pairs_few, file_length, file_short}

-- ---- the first entries of rows alone
taken_length : (n : ℕ) (row : List ℕ) → n ≤ length row → length (take n row) ≡ n
taken_length n row h = omega (arith, length-take n row)

jobs_taken : (n : ℕ) (starts latest : List ℕ) → n ≤ length starts → jobs_bytes (take n starts) (take n latest) ≡ bytes_of_all (gather n (job_record starts latest))
jobs_taken n starts latest h = rw (taken_length n starts h) (ap bytes_of_all (gather_same _ n _
    (λ i l. ap₂ (λ start due. Job start due ∷ []) (get_or-take n starts i 0 l) (get_or-take n latest i 0 l))))

orders_taken : (n : ℕ) (before : List ℕ) → n ≤ length before → orders_bytes (take n before) ≡ bytes_of_all (gather n (follower_records n before))
orders_taken n before h = rw (taken_length n before h) (ap bytes_of_all (gather_same _ n _
    (λ a la. gather_same _ n _ (λ b lb. ap (λ set. cond (has set a) (Order a b ∷ []) []) (get_or-take n before b 0 lb)))))

module _ (k : Book) where
  abbrev pub jobs_part : List ℕ
  jobs_part = bytes_of_all (gather k.size (job_record k.start k.latest))

  abbrev pub orders_part : List ℕ
  orders_part = bytes_of_all (gather k.size (follower_records k.size k.before))

  file_parts : file_of k ≡ jobs_part ++ orders_part
  unfolding file_of records_of
  file_parts = all_append (gather k.size (job_record k.start k.latest)) (gather k.size (follower_records k.size k.before))

  pub file_both : length (file_of k) ≡ length jobs_part + length orders_part
  file_both = ap length file_parts ∙ length-append jobs_part orders_part

  pub short_writes : (old : List ℕ) (n : ℕ) → n ≡ length (file_of k) → length old < n → WritesBook k old old 8 n
  short_writes old n e h = record { outcome = refused 8 n (omega arith, refl, e) refl }

  -- jobs written, and then orders, are the whole file written
  pub long_writes : {from mid to : Written} (new : List ℕ) (n : ℕ) → n ≡ length (file_of k) → n ≤ length from.out.now → from.at ≡ 0 → Continues jobs_part from mid → Continues orders_part mid to →
      new ≡ to.out.now → WritesBook k from.out.now new 0 n
  long_writes {from} new n e h start p q x = record { outcome = passed (λ f. omega arith) (λ i. output (stored i) 0 (e i)) }
    where
      stored : new ≡ file_of k ++ drop (length (file_of k)) from.out.now
      stored =
          x ∙ (continues_then p q).stored ∙ ap₂ (λ l m. sets from.out.now m l) (sym file_parts) start
          ∙ sets-eq (file_of k) from.out.now 0 (omega (arith, zero-add (length (file_of k)))) ∙ ap (λ (m : ℕ). file_of k ++ drop m from.out.now) (zero-add (length (file_of k)))

  -- ---- one outcome
  pub writes_only : (old new other : List ℕ) (n v m w : ℕ) → WritesBook k old new n v → WritesBook k old other m w → output new n v ≡ output other m w
  writes_only old new other n v m w x y = table_one _ _ _ (λ i j a b p q. p ∙ sym q) (λ a b p q. p ∙ sym q) (output new n v) (output other m w) x.outcome y.outcome

  -- and so the call has one answer, and leaves one row of bytes
  pub write_only : (old new other : List ℕ) (r s : Result ℕ Refusal) → Says r (λ n v. WritesBook k old new n v) → Says s (λ n v. WritesBook k old other n v) → (r ≡ s) × (new ≡ other)
  write_only old new other r s x y =
      let e = writes_only old new other _ _ _ _ (says_told (λ n v. WritesBook k old new n v) r x) (says_told (λ n v. WritesBook k old other n v) s y) in
      (says_only _ _ r s (λ n v m w p q. let f = writes_only old new other n v m w p q in (ap (λ (z : Output). z.number) f, ap (λ (z : Output). z.value) f)) x y, ap (λ (z : Output). z.bytes) e)

  -- what was written, cut to the value told, is the file
  pub written_file : (old new : List ℕ) (v : ℕ) → WritesBook k old new 0 v → (v ≡ length (file_of k)) × (take v new ≡ file_of k)
  written_file old new v x =
      let y = (table_past _ _ _ (output new 0 v) (λ n w a p. let z = ap (λ (z : Output). z.number) p in omega (arith, a, z)) x.outcome).1 in
      let e : v ≡ length (file_of k) = ap (λ (z : Output). z.value) y in
      (e, ap (take v) (ap (λ (z : Output). z.bytes) y) ∙ take_at (file_of k) _ v (sym e))

-- ---- as the code reads the rows: their first entries, as many as there are jobs
module _ (k : Book) (m : Made k) (n : ℕ) (e : n ≡ k.size) where
  pub pairs_fit : pairs_in (take n k.before) ≤ 4096
  pairs_fit = rw e (omega (arith, pairs_taken k.size k.before (omega (arith, m.1.shaped.few, m.1.shaped.befores)), pairs_few k m.0 m.1, m.1.shaped.few))

  -- six bytes for each job and for each pair are the whole file
  pub counted : (p : ℕ) → p ≡ pairs_in (take n k.before) → 6 * (n + p) ≡ length (file_of k)
  counted p f = rw (f, e) (omega (arith, pairs_taken k.size k.before (omega (arith, m.1.shaped.few, m.1.shaped.befores)), file_length k m.0 m.1))

  pub jobs_are : (starts latest : List ℕ) → starts ≡ k.start → latest ≡ k.latest → jobs_bytes (take n starts) (take n latest) ≡ jobs_part k
  jobs_are starts latest s l = rw (s, l, e) (jobs_taken k.size k.start k.latest (omega (arith, m.1.shaped.few, m.1.shaped.starts)))

  pub orders_are : orders_bytes (take n k.before) ≡ orders_part k
  orders_are = rw e (orders_taken k.size k.before (omega (arith, m.1.shaped.few, m.1.shaped.befores)))

-- 12,480 bytes are always enough
pub enough : (k : Book) → Made k → Enough k
enough k m = record {
  short = file_short k m.0 m.1;
  accepted = λ old new n v room x.
      ap (λ (z : Output). z.number) (table_free _ _ _ (output new n v) (λ f. omega (arith, f, file_short k m.0 m.1)) x.outcome);
}

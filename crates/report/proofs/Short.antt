-- How long a listing can be.
-- Assumes nothing.
use mathlib.Core.Bool.{Bool, true, false, cond, ◌&&◌, ◌||◌}
use mathlib.Core.List.{List, ◌++◌}
use mathlib.Core.Path.{◌≡◌}
use Prim.Native.Nat.{ℕ, ◌+◌, ◌*◌, ◌/◌, ◌≤◌, ◌<◌}
use native.Mathlib.Nat.{le_trans}
use native.Mathlib.Omega.{arith}
use lib.Dec.{eqb}
use lib.ListN.{length, get_or, length-append}
use Rattle.report.specs.Line.{refused_line, jobs_line, core, slot_line, job_line}
use Rattle.report.specs.Listing.{refused_lines, stop_line, slot_lines, job_text, job_lines, book_lines}
use Rattle.book.specs.Told.{cores, Book, latest_of, Made}
use Rattle.plan.specs.Plan.{finish_of, bytes_of}
use Rattle.plan.proofs.BookPlan.{book_plan, finish_fits}
use Rattle.text.proofs.Decimal.{decimal_short}
use Rattle.text.proofs.Each.{each_short}
use Rattle.report.proofs.Ends.{long, byte_small}
use Rattle.report.proofs.Ended.{Ending}

abbrev Short : ℕ → List ℕ → Type 0
Short k text = length text ≤ k

pub either : (k : ℕ) (b : Bool) (x y : List ℕ) → Short k x → Short k y → Short k (cond b x y)
either k true x y h i = h
either k false x y h i = i

refused_short : (place number : ℕ) → place < 10000 → number < 1000 → Short 24 (refused_line place number)
refused_short place number h i =
    either 24 (eqb number 0) _ _ (omega arith) (simp length-append (omega (arith, decimal_short 3 place h, decimal_short 2 number i)))

jobs_short : (jobs slots : ℕ) → jobs < 100 → slots < 10000 → Short 19 (jobs_line jobs slots)
jobs_short jobs slots h i = simp length-append (omega (arith, decimal_short 1 jobs h, decimal_short 3 slots i))

core_short : (byte : ℕ) → byte < 1000 → Short 3 (core byte)
core_short byte h = either 3 (eqb byte 255) _ _ (omega arith) (decimal_short 2 byte h)

slot_short : (slot a b : ℕ) → slot < 10000 → a < 1000 → b < 1000 → Short 18 (slot_line slot a b)
slot_short slot a b h i j =
    either 18 (eqb a 255 && eqb b 255) _ _ (omega arith)
    (simp length-append (omega (arith, decimal_short 3 slot h, core_short a i, core_short b j)))

job_short : (job start latest end spare : ℕ) → job < 100 → start < 10000 → latest < 10000 → end < 10000 → spare < 10000 →
    Short 50 (job_line job start latest end spare)
job_short job start latest end spare a b c d e =
    simp length-append
    (omega (arith, decimal_short 1 job a, decimal_short 3 start b, decimal_short 3 latest c, decimal_short 3 end d, decimal_short 3 spare e))

refused_lines_short : (numbers : List ℕ) → length numbers ≤ 4096 → ((i : ℕ) → get_or numbers i 0 < 1000) → length (refused_lines numbers) ≤ length numbers * 24
refused_lines_short numbers h small = each_short 24 (length numbers) _ (λ i l. refused_short i (get_or numbers i 0) (omega arith) (small i))

stop_short : (number value : ℕ) → Ending number value → Short 44 (stop_line number value)
stop_short number value e =
    either 44 (eqb number 10 || eqb number 11) _ _ (simp length-append (omega (arith, decimal_short 4 value (omega (arith, e.low)), decimal_short 2 number e.small))) (omega arith)

slot_lines_short : (k : Book) → Made k → length (slot_lines (bytes_of k)) ≤ length (bytes_of k) / 2 * 18
slot_lines_short k m =
    each_short 18 (length (bytes_of k) / 2) _ (λ t l.
    let z : cores * t + 0 ≡ cores * t = omega arith in
    let h : t < finish_of k = omega (arith, long k m) in
    slot_short t (get_or (bytes_of k) (cores * t) 0) (get_or (bytes_of k) (cores * t + 1) 0) (omega (arith, finish_fits k m)) (omega (arith, rw z at (byte_small k m t 0 h (omega arith)))) (omega (arith, byte_small k m t 1 h (omega arith))))

-- what a book's limits leave of its times
module _ (k : Book) (m : Made k) (job : ℕ) (h : job < k.size) where
  latest_low : latest_of k job ≤ 4096
  latest_low = le_trans (m.1.holds.latest.beneath job h) (m.1.limited.deadline job (omega (arith, m.1.holds.reads.size)))

  job_text_short : Short 50 (job_text k job)
  job_text_short =
      let ends = (book_plan k m).meets.ends job h in
      let begun = (book_plan k m).valid.begun job h in
      let few = m.1.shaped.few in
      job_short job _ _ _ _ (omega arith) (omega (arith, latest_low)) (omega (arith, latest_low)) (omega (arith, latest_low)) (omega (arith, latest_low))

job_lines_short : (k : Book) → Made k → length (job_lines k) ≤ 3200
job_lines_short k m = omega (arith, m.1.shaped.few, each_short 50 k.size (job_text k) (job_text_short k m))

book_short : (k : Book) → Made k → length (book_lines k) ≤ 76947
book_short k m =
    let few = m.1.shaped.few in
    let ends = finish_fits k m in
    let heading = jobs_short k.size (finish_of k) (omega arith) (omega arith) in
    omega (arith, length-append (jobs_line k.size (finish_of k) ++ slot_lines (bytes_of k)) (job_lines k), length-append (jobs_line k.size (finish_of k)) (slot_lines (bytes_of k)), long k m, slot_lines_short k m, job_lines_short k m)

-- 196,608 bytes are enough for any file
pub text_short : (numbers : List ℕ) (number value : ℕ) (k : Book) → length numbers ≤ 4096 → ((i : ℕ) → get_or numbers i 0 < 1000) → Ending number value → Made k →
    length (refused_lines numbers ++ stop_line number value ++ book_lines k) ≤ 196608
text_short numbers number value k few small e m =
    omega (arith, length-append (refused_lines numbers ++ stop_line number value) (book_lines k), length-append (refused_lines numbers) (stop_line number value), refused_lines_short numbers few small, stop_short number value e, book_short k m)

-- A request has one outcome, and a run of requests one book.
-- Assumes nothing.
use mathlib.Core.Bool.{Bool, not, ◌&&◌, ◌||◌}
use mathlib.Core.Path.{◌≡◌, sym, ap, subst, ◌∙◌}
use native.Mathlib.Omega.{arith}
use Prim.Native.Nat.{ℕ, ◌≤◌, ◌<◌}
use borrow.Author.Tests.{ne_eqb}
use lib.Dec.{T, ltb, eqb, ltb→lt}
use Rattle.schedule.specs.Listed.{Listed}
use Rattle.schedule.proofs.Tests.{and_fst, and_snd}
use Rattle.std.specs.Prelude.{Result, Ok, Err}
use Rattle.std.specs.Result.{IsErrAnd}
use Rattle.refusal.specs.declared.Refusal.{Refusal}
use Rattle.refusal.specs.Says.{Says, reason_number}
use Rattle.refusal.specs.Table.{One}
use Rattle.refusal.proofs.Table.{Each, each_map, among_each, table_one, table_all}
use Rattle.refusal.proofs.Says.{says_only, says_more}
use Rattle.book.specs.Told.{Book, Told, Made}
use Rattle.book.proofs.OneBook.{told_one}
use Rattle.planner.specs.declared.requests.Request.{Request}
use Rattle.planner.specs.declared.requests.Request.TheVariants.{Job, Before, Earlier}
use Rattle.planner.specs.Requests.{sound_checks, request_checks, accepts_with, grow, Applied, answered, Turned, Grown, Outcome, Outcomes, Applies, kept, Run, opened, asked}

-- ---- what a call says that refuses
pub says_refused : (P : ℕ → ℕ → Type 0) (r : Refusal) (a : Result ℕ Refusal) → IsErrAnd a (λ s. s ≡ r) → P (reason_number r.reason) r.value → Says a P
says_refused P r (Ok v) h x = absurd h
says_refused P r (Err s) h x = rw h x

-- ---- one outcome
grown_one : (L : Listed) (value : ℕ) → One (Grown L value)
grown_one L value r s x y = x.accepts ∙ ap (λ (k : Book). answered k 0 value) (told_one L r.book s.book x.told y.told) ∙ sym y.accepts

pub outcome_one : (L : Listed) (k : Book) (q : Request) → One (Outcome L k q)
outcome_one L k q = table_one (request_checks L q) (Turned k) (Grown (grow L q) (accepts_with L q)) (λ n v r s x y. x ∙ sym y) (grown_one (grow L q) (accepts_with L q))

-- the promise of apply has one result
pub applies_only : (k : Book) (q : Request) → Made k → One (Applies k q)
applies_only k q m r s x y = outcome_one m.0 k q r s (x.outcome m.0 m.1) (y.outcome m.0 m.1)

-- and so the call has one answer, and leaves one book
pub answer_only : (k : Book) (q : Request) (b c : Book) (r s : Result ℕ Refusal) → Made k → Says r (λ n v. Applies k q (answered b n v)) → Says s (λ n v. Applies k q (answered c n v)) → r ≡ s
answer_only k q b c r s m x y = says_only _ _ r s (λ n v u w p o. let e = applies_only k q m _ _ p o in (ap (λ (a : Applied). a.number) e, ap (λ (a : Applied). a.value) e)) x y

-- ---- numbers
-- a number of the table that comes before 4; 9, 10 and 11 are those of a file
abbrev pub sound_number : ℕ → Bool
sound_number n = ltb 0 n && ltb n 15 && not (eqb n 4 || eqb n 9 || eqb n 10 || eqb n 11)

pub sound_numbers : (L : Listed) (q : Request) → Each (λ n. T (sound_number n)) (sound_checks L q)
sound_numbers L (Job s d) = (tt, (tt, tt))
sound_numbers L (Before a b) = ((tt, tt), (tt, tt))
sound_numbers L (Earlier j d) = (tt, (tt, tt))

pub sound_some : (n : ℕ) → T (sound_number n) → 1 ≤ n
sound_some n t = ltb→lt 0 n (and_fst (ltb 0 n) (ltb n 15) (and_fst (ltb 0 n && ltb n 15) _ t))

pub sound_few : (n : ℕ) → T (sound_number n) → n < 15
sound_few n t = ltb→lt n 15 (and_snd (ltb 0 n) (ltb n 15) (and_fst (ltb 0 n && ltb n 15) _ t))

pub sound_other : (n : ℕ) → T (sound_number n) → 4 ≡ n → ⊥
sound_other n t e = rw (← e) at t

pub request_some : (L : Listed) (q : Request) → Each (λ n. 1 ≤ n) (request_checks L q)
request_some L q = (each_map (λ n. T (sound_number n)) (λ n. 1 ≤ n) (sound_checks L q) sound_some (sound_numbers L q), omega arith)

-- what holds of 0, of 4 and of the numbers before 4 holds of an answer's number
pub applied_number : (P : ℕ → Type 0) → P 0 → P 4 → ((n : ℕ) → T (sound_number n) → P n) → (k : Book) (q : Request) (r : Applied) → Made k → Applies k q r → P r.number
applied_number P zero four sound k q r m x =
    let L = m.0 in
    let at : (n : ℕ) → r.number ≡ n → P n → P r.number = λ n e p. subst P (sym e) p in
    table_all (request_checks L q) (Turned k) (Grown (grow L q) (accepts_with L q)) r (P r.number)
    (λ n v a e. at n (ap (λ (z : Applied). z.number) e) (among_each P (request_checks L q) n (each_map (λ n. T (sound_number n)) P (sound_checks L q) sound (sound_numbers L q), four) a))
    (λ g. at 0 (ap (λ (z : Applied). z.number) g.accepts) zero)
    (x.outcome L m.1)

-- ---- runs
pub kept_refused : (L : Listed) (q : Request) (n : ℕ) → 1 ≤ n → kept L q n ≡ L
kept_refused L q n h = simp (ne_eqb n 0 (λ e. omega arith))

pub outcome_told : (L : Listed) (k : Book) (q : Request) (r : Applied) → Told k L → Outcome L k q r → Told r.book (kept L q r.number)
outcome_told L k q r t = table_all (request_checks L q) (Turned k) (Grown (grow L q) (accepts_with L q)) r (Told r.book (kept L q r.number))
    (λ n v x a. rw a (subst (Told k) (sym (kept_refused L q n (among_each (λ n. 1 ≤ n) (request_checks L q) n (request_some L q) x))) t))
    (λ g. subst (λ (n : ℕ). Told r.book (kept L q n)) (sym (ap (λ (a : Applied). a.number) g.accepts)) g.told)

pub outcomes_made : (k : Book) (q : Request) (r : Applied) → Made k → Outcomes k q r → Made r.book
outcomes_made k q r m x = (kept m.0 q r.number, outcome_told m.0 k q r m.1 (x m.0 m.1))

pub applies_by : (k : Book) (q : Request) (r : Applied) → Made k → Outcomes k q r → Applies k q r
applies_by k q r m x = record { outcome = x; made = outcomes_made k q r m x }

pub says_applies : (k : Book) (q : Request) (b : Book) (r : Result ℕ Refusal) → Made k → Says r (λ n v. Outcomes k q (answered b n v)) → Says r (λ n v. Applies k q (answered b n v))
says_applies k q b r m x = says_more _ _ r (λ n v y. applies_by k q (answered b n v) m y) x

-- a run holds the list of what it accepted, and leaves one book
pub run_told : (L : Listed) (k : Book) → Run L k → Told k L
run_told L k (opened k' t) = t
run_told L k (asked M k' q r run x) = outcome_told M k' q r (run_told M k' run) (x.outcome M (run_told M k' run))

pub run_one : (L : Listed) (k b : Book) → Run L k → Run L b → k ≡ b
run_one L k b x y = told_one L k b (run_told L k x) (run_told L b y)

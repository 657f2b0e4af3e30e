-- Demand 1: a refusal has a number of the table, and leaves the book and lent memory as they were.
-- Assumes nothing.
use mathlib.Core.List.{List, ◌++◌}
use mathlib.Core.Logic.{◌⊎◌, inl, inr}
use mathlib.Core.Path.{◌≡◌, refl, ap, subst, sym, ◌∙◌}
use Prim.Native.Nat.{ℕ, ◌+◌, ◌≤◌, ◌<◌}
use native.Mathlib.Omega.{arith}
use borrow.Author.Tests.{ne_eqb}
use lib.Dec.{T}
use lib.IntN.{ℤ}
use lib.ListN.{length, drop}
use Rattle.schedule.specs.Listed.{Listed}
use Rattle.refusal.specs.Table.{check, Table, refused, passed}
use Rattle.refusal.proofs.Table.{Each, each_map, among_each, refuses_each, table_all}
use Rattle.book.specs.Told.{Book, Made}
use Rattle.planner.specs.declared.requests.Request.{Request}
use Rattle.planner.specs.Requests.{sound_checks, request_checks, accepts_with, grow, Applied, answered, Turned, Grown, Applies}
use Rattle.planner.specs.List.{list_of, rows_checks, list_checks, Judged, TurnedDown, Fitted, Judges}
use Rattle.planner.proofs.Outcome.{sound_number, sound_some, sound_few, sound_numbers}
use Rattle.planner.specs.Late.{late_checks, Latens, lone_checks, short_checks, Shortens}
use Rattle.planner.proofs.ListOutcome.{rows_numbers}
use Rattle.planner.proofs.HowLate.{late_numbers, lone_numbers}
use Rattle.plan.specs.Plan.{Plans}
use Rattle.plan.specs.Place.{Places}
use Rattle.records.specs.declared.Record.{Record}
use Rattle.records.specs.Record.{length_of, Stands}
use Rattle.records.specs.Find.{find_checks}
use Rattle.jobfile.specs.Reader.{AfterRead, asks, Stays, Answers, ReadsRecord}
use Rattle.jobfile.specs.Writer.{file_of, Output, output, WritesBook}
use Rattle.firmware.specs.List.{FindsLateness}
use Rattle.firmware.specs.Plans.{FindsPlace}
use Rattle.demands.specs.Demands.{Numbered, Demand1}

-- ---- every number of the tables
numbered : (n : ℕ) → T (sound_number n) → Numbered n
numbered n t = (sound_some n t, omega (arith, sound_few n t))

request_numbered : (L : Listed) (q : Request) → Each Numbered (request_checks L q)
request_numbered L q = (each_map (λ n. T (sound_number n)) Numbered (sound_checks L q) numbered (sound_numbers L q), (omega arith, omega arith))

list_numbered : (starts deadlines pairs row : List ℕ) → Each Numbered (list_checks starts deadlines pairs row)
list_numbered starts deadlines pairs row =
    (each_map (λ n. T (sound_number n)) Numbered (rows_checks starts deadlines pairs row) numbered (rows_numbers starts deadlines pairs row), (omega arith, omega arith))

-- ---- demand 1
request : (k : Book) (q : Request) (r : Applied) → Made k → Applies k q r → 1 ≤ r.number → Numbered r.number × (r.book ≡ k)
request k q r m x h = table_all (request_checks m.0 q) (Turned k) (Grown (grow m.0 q) (accepts_with m.0 q)) r (Numbered r.number × (r.book ≡ k))
    (λ n v y a. (subst Numbered (sym (ap (λ (z : Applied). z.number) a)) (among_each Numbered (request_checks m.0 q) n (request_numbered m.0 q) y), ap (λ (z : Applied). z.book) a))
    (λ g. absurd (omega (arith, ap (λ (z : Applied). z.number) g.accepts))) (x.outcome m.0 m.1)

list : (starts deadlines pairs old : List ℕ) (r : Judged) → Judges starts deadlines pairs old r → 1 ≤ r.number → Numbered r.number × (r.row ≡ old)
list starts deadlines pairs old r j h = table_all (list_checks starts deadlines pairs old) (TurnedDown old) (Fitted (list_of starts deadlines pairs) old) r (Numbered r.number × (r.row ≡ old))
    (λ n v y a. (subst Numbered (sym (ap (λ (z : Judged). z.number) a)) (among_each Numbered (list_checks starts deadlines pairs old) n (list_numbered starts deadlines pairs old) y), ap (λ (z : Judged). z.row) a))
    (λ g. absurd (omega (arith, ap (λ (z : Judged). z.number) g.accepts))) j

late_numbered : (starts deadlines pairs : List ℕ) → Each Numbered (late_checks starts deadlines pairs)
late_numbered starts deadlines pairs = each_map (λ n. T (sound_number n)) Numbered (late_checks starts deadlines pairs) numbered (late_numbers starts deadlines pairs)

lateness : (starts deadlines pairs : List ℕ) (n : ℕ) (v : ℤ) → Latens starts deadlines pairs n v → 1 ≤ n → Numbered n
lateness starts deadlines pairs n v (refused m w x e) h = subst Numbered (sym (ap (λ (p : ℕ × ℤ). p.0) e)) (refuses_each Numbered (late_checks starts deadlines pairs) m w (late_numbered starts deadlines pairs) x)
lateness starts deadlines pairs n v (passed x l) h = absurd (omega (arith, ap (λ (p : ℕ × ℤ). p.0) l.tells))

lateness_lent : (starts deadlines pairs : List ℕ) (old new : ℤ) (n v : ℕ) → FindsLateness starts deadlines pairs old new n v → 1 ≤ n → Numbered n × (new ≡ old)
lateness_lent starts deadlines pairs old new n v x h = (lateness starts deadlines pairs n x.value x.latens h, x.late ∙ simp (ne_eqb n 0 (λ e. omega arith)))

short_numbered : (starts deadlines pairs : List ℕ) → Each Numbered (short_checks starts deadlines pairs)
short_numbered starts deadlines pairs = (each_map (λ n. T (sound_number n)) Numbered (lone_checks starts deadlines pairs) numbered (lone_numbers starts deadlines pairs), (omega arith, omega arith))

shortest : (starts deadlines pairs : List ℕ) (n v : ℕ) → Shortens starts deadlines pairs n v → 1 ≤ n → Numbered n
shortest starts deadlines pairs n v (refused m w x e) h = subst Numbered (sym (ap (λ (p : ℕ × ℕ). p.0) e)) (refuses_each Numbered (short_checks starts deadlines pairs) m w (short_numbered starts deadlines pairs) x)
shortest starts deadlines pairs n v (passed x l) h = absurd (omega (arith, ap (λ (p : ℕ × ℕ). p.0) l.tells))

plan : (k : Book) (old new : List ℕ) (n v : ℕ) → Plans k old new n v → 1 ≤ n → Numbered n × (new ≡ old)
plan k old new n v (refused c w x e) h = let number : n ≡ 8 = ap (λ r. r.0) e ∙ x.1 in ((omega arith, omega arith), ap (λ r. r.2) e)
plan k old new n v (passed x e) h = absurd (omega (arith, ap (λ r. r.0) e))

place : (k : Book) (job n : ℕ) (values : List ℕ) → Places k job n values → 1 ≤ n → Numbered n
place k job n values (refused c w x e) h = let number : n ≡ 5 = ap (λ r. r.0) e ∙ x.1 in (omega arith, omega arith)
place k job n values (passed x e) h = absurd (omega (arith, ap (λ r. r.0) e))

place_lent : (k : Book) (job n : ℕ) (old new : List ℕ) → FindsPlace k job old new n → 1 ≤ n → Numbered n × (new ≡ old)
place_lent k job n old new x h = (place k job n x.values x.places h, x.lent ∙ simp (ne_eqb n 0 (λ e. omega arith)))

-- the numbers of a read's own checks: 9, the end, 11, 10
stopped : (file : List ℕ) (at : ℕ) → Each (λ n. (n ≡ 255 → ⊥) → Numbered n) (find_checks file at)
stopped file at = ((λ f. (omega arith, omega arith)), ((λ f. absurd (f refl)), ((λ f. (omega arith, omega arith)), λ f. (omega arith, omega arith))))

record_read : (k : Book) (file : List ℕ) (at : ℕ) (r : AfterRead) → Made k → ReadsRecord k file at r → 1 ≤ r.number → (r.number ≡ 255 → ⊥) →
    Numbered r.number × (r.book ≡ k) × ((r.at ≡ at) ⊎ ((told : Record) × Stands file at told × (r.at ≡ at + length_of told)))
record_read k file at r m x h some = go x.outcome
  where
    go : Table (find_checks file at) (Stays k at) (Answers k file at) r → Numbered r.number × (r.book ≡ k) × ((r.at ≡ at) ⊎ ((told : Record) × Stands file at told × (r.at ≡ at + length_of told)))
    go (refused n v y e) = (
      subst Numbered (sym (ap (λ (s : AfterRead). s.number) e)) (refuses_each (λ n. (n ≡ 255 → ⊥) → Numbered n) (find_checks file at) n v (stopped file at) y (λ f. some (ap (λ (s : AfterRead). s.number) e ∙ f))),
      ap (λ (s : AfterRead). s.book) e,
      inl (ap (λ (s : AfterRead). s.at) e),
    )
    go (passed y a) = let z = request k (asks a.stood) (answered r.book r.number r.value) m a.applies h in (z.0, z.1, inr (a.stood, a.stands, a.moved))

written : (k : Book) (old new : List ℕ) (n v : ℕ) → WritesBook k old new n v → 1 ≤ n → Numbered n × (new ≡ old)
written k old new n v x h = go x.outcome
  where
    go : Table (check 8 (length (file_of k)) (length old < length (file_of k))) (λ number value r. r ≡ output old number value)
        (λ r. r ≡ output (file_of k ++ drop (length (file_of k)) old) 0 (length (file_of k))) (output new n v) → Numbered n × (new ≡ old)
    go (refused c w y e) = let number : n ≡ 8 = ap (λ (p : Output). p.number) e ∙ y.1 in ((omega arith, omega arith), ap (λ (p : Output). p.bytes) e)
    go (passed y e) = absurd (omega (arith, ap (λ (p : Output). p.number) e))

pub demand_1 : Demand1
demand_1 = record { request = request; list = list; lateness = lateness; shortest = shortest; plan = plan; place = place; lateness_lent = lateness_lent; place_lent = place_lent; record_read = record_read; written = written }

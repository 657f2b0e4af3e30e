-- From the rows to the lines of a list, to those of records, to those of a file.
-- Assumes nothing.
use mathlib.Core.List.{List, ◌++◌}
use mathlib.Core.Path.{◌≡◌, refl, ap, subst, ◌∙◌}
use Prim.Native.Nat.{ℕ}
use native.Mathlib.Omega.{arith}
use lib.IntN.{ℤ, pos}
use lib.ListN.{length}
use borrow.Author.Tests.{ne_eqb}
use Rattle.std.specs.Prelude.{Result}
use Rattle.refusal.specs.declared.Refusal.{Refusal}
use Rattle.refusal.specs.Says.{Says, reason_number, number_of, value_of}
use Rattle.refusal.specs.Table.{Clear, Refuses, refused, passed}
use Rattle.refusal.proofs.Says.{number_within, says_told}
use Rattle.records.specs.declared.Record.{Record}
use Rattle.planner.specs.Late.{Latens, Shortens}
use Rattle.report.specs.Line.{refused_line}
use Rattle.verdict.specs.Gathered.{Contains, given, start_of, drawn, stray_checks}
use Rattle.verdict.specs.Line.{late_line, short_line, turned_down_line, stop_line}
use Rattle.verdict.specs.Verdict.{Weighs, Together, Verdict}
use Rattle.verdict.specs.Inner.Gather.{Holds}
use Rattle.verdict.specs.declared.gather.Rows.{Rows}
use Rattle.verdict.proofs.Rows.{given_alike}

-- ---- a list
module _ (s d p text : List ℕ) (short : Result ℕ Refusal) (y : Says short (Shortens s d p)) where
  pub weighs_by : (slots : ℤ) → Latens s d p 0 slots → text ≡ late_line (length s) slots ++ short_line (number_of short) (value_of short) → Weighs s d p text
  weighs_by slots x e = record { number = 0; value = slots; late = x; other = number_of short; end = value_of short; short = says_told (Shortens s d p) short y; told = e }

  pub weighs_refused : (refusal : Refusal) → Latens s d p (reason_number refusal.reason) (pos refusal.value) → text ≡ turned_down_line (reason_number refusal.reason) (pos refusal.value) → Weighs s d p text
  weighs_refused refusal x e = record {
    number = reason_number refusal.reason;
    value = pos refusal.value;
    late = x;
    other = number_of short;
    end = value_of short;
    short = says_told (Shortens s d p) short y;
    told = rw (ne_eqb (reason_number refusal.reason) 0 (λ z. omega (arith, (number_within refusal.reason).0))) e;
  }

-- ---- records
module _ (records : List Record) (rows : Rows) (h : Holds records rows) where
  jobs : length rows.deadlines ≡ length (given start_of records)
  jobs = ap length h.deadlines ∙ given_alike records

  pub together_stray : (place : ℕ) (text : List ℕ) → Refuses (stray_checks (length rows.deadlines) records) 5 place → text ≡ refused_line place 5 → Together records text
  together_stray place text x e = refused 5 place (subst (λ n. Refuses (stray_checks n records) 5 place) jobs x) e

  pub together_list : (d text : List ℕ) → Clear (stray_checks (length rows.deadlines) records) × (d ≡ drawn records rows.deadlines) → Weighs rows.starts d rows.pairs text → Together records text
  together_list d text x w =
      passed (subst (λ n. Clear (stray_checks n records)) jobs x.0)
      (rw (← h.starts, ← h.deadlines, ← h.pairs, ← x.1) w)

-- ---- a file
module _ (file : List ℕ) (records : List Record) where
  pub verdict_stopped : (refusal : Refusal) (text : List ℕ) → Contains file 0 records (reason_number refusal.reason) refusal.value → text ≡ stop_line (reason_number refusal.reason) refusal.value → Verdict file text
  verdict_stopped refusal text x e = record {
    records = records;
    number = reason_number refusal.reason;
    value = refusal.value;
    contains = x;
    told = refused _ _ ((λ z. omega (arith, (number_within refusal.reason).1)), refl, refl) e;
  }

  pub verdict_whole : (text : List ℕ) → Contains file 0 records 255 0 → Together records text → Verdict file text
  verdict_whole text x j = record { records = records; number = 255; value = 0; contains = x; told = passed (λ f. f refl) j }

-- A file has one verdict.
-- Assumes nothing.
use mathlib.Core.Bool.{cond}
use mathlib.Core.List.{List, ◌++◌}
use mathlib.Core.Path.{◌≡◌, sym, ap, ap₂, ◌∙◌}
use Prim.Native.Nat.{ℕ}
use lib.Dec.{eqb}
use lib.ListN.{length, drop}
use Rattle.refusal.specs.Table.{One}
use Rattle.refusal.proofs.Table.{table_one}
use Rattle.records.specs.declared.Record.{Record}
use Rattle.planner.proofs.HowLate.{latens_only, shortens_only}
use Rattle.verdict.specs.Line.{late_line, short_line, turned_down_line}
use Rattle.verdict.specs.Verdict.{Weighs, Together, Verdict, Verdicts}
use Rattle.verdict.proofs.Walk.{contains_one}

weighs_one : (s d p : List ℕ) → One (Weighs s d p)
weighs_one s d p a b x y =
    let late = latens_only s d p _ _ _ _ x.late y.late in
    let short = shortens_only s d p _ _ _ _ x.short y.short in
    x.told
    ∙ ap₂ (λ n z. cond (eqb n 0) (late_line (length s) z ++ short_line x.other x.end) (turned_down_line n z)) late.0 late.1
    ∙ ap₂ (λ m e. cond (eqb y.number 0) (late_line (length s) y.value ++ short_line m e) (turned_down_line y.number y.value)) short.0 short.1
    ∙ sym y.told

together_one : (records : List Record) → One (Together records)
together_one records = table_one _ _ _ (λ n v a b p q. p ∙ sym q) (weighs_one _ _ _)

pub verdict_one : (file : List ℕ) → One (Verdict file)
verdict_one file a b x y =
    let same = contains_one x.contains y.contains in
    table_one _ _ _ (λ n v a b p q. p ∙ sym q) (together_one y.records) a b (rw (same.0, same.1, same.2) at x.told) y.told

pub verdict_only : (file old new other : List ℕ) (r s : ℕ) → Verdicts file old new r → Verdicts file old other s → (new ≡ other) × (r ≡ s)
verdict_only file old new other r s x y =
    let e = verdict_one file x.text y.text x.kind y.kind in
    (x.bytes ∙ ap (λ (t : List ℕ). t ++ drop (length t) old) e ∙ sym y.bytes, x.answer ∙ ap length e ∙ sym y.answer)

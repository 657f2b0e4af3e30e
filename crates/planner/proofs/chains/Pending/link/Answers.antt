use Rattle.std.proofs.Common.{◌≡◌, sym, ◌∙◌, ℕ, ◌<◌, ◌≤◌, List, T, length, get_or, take, length-take, rules, arith}
use Rattle.std.proofs.lemmas.List.{places}
use borrow.Rule.Slice.PartMut.{put_mid}
use mathlib.Core.Logic.{⊎_elim}
use Rattle.schedule.proofs.Tests.{le_or_lt}
use Rattle.sets.specs.Sets.{has}
use Rattle.planner.specs.declared.chains.Pending.{Pending}
use Rattle.planner.specs.Inner.Chains.{joined_of, joined_rows}
use Rattle.planner.proofs.Pending.{joined_same, rows_are}
use Rattle.planner.proofs.chains.Pending.link.Goals as goal

linked : (size : ℕ) (rows new : List ℕ) (p : Pending) → length rows ≡ 64 → size ≤ 64 → length new ≡ size → p.job.0 < size →
    ((y : ℕ) → size ≤ y → T (has (get_or rows y 0) p.job.0) → ⊥) → ((k : ℕ) → k < size → get_or new k 0 ≡ joined_of (get_or (take size rows) k 0) k p) →
    put_mid 0 size rows new ≡ joined_rows rows p
linked size rows new p lr few ln job free front = rows_are rows p (put_mid 0 size rows new) (search (rules, places)) (λ y h. ⊎_elim (beyond y) (below y) (le_or_lt size y))
  where
    beyond : (y : ℕ) → size ≤ y → get_or (put_mid 0 size rows new) y 0 ≡ joined_of (get_or rows y 0) y p
    beyond y l =
        let same : get_or (put_mid 0 size rows new) y 0 ≡ get_or rows y 0 = search (rules, places) in
        same ∙ sym (joined_same (get_or rows y 0) y p (free y l) (λ e. omega arith))

    below : (y : ℕ) → y < size → get_or (put_mid 0 size rows new) y 0 ≡ joined_of (get_or rows y 0) y p
    below y l =
        let same : get_or (put_mid 0 size rows new) y 0 ≡ get_or new y 0 = search (rules, places) in
        let old : get_or (take size rows) y 0 ≡ get_or rows y 0 = search (rules, places) in
        same ∙ rw old at (front y l)

pub returns : goal.returns
returns c =
    let r = c.requires in
    let all : length (take c.args.size c.args.rows.now) ≡ c.args.size = simp length-take (omega arith) in
    linked _ _ _ _ (omega arith) r.0 (omega arith) r.1 r.2 (λ k h. c.loop-y.invariant.0 k (omega arith))

use mathlib.Core.List.{List, ◌++◌}
use mathlib.Core.Path.{sym, ap, ◌∙◌}
use native.Mathlib.Nat.{le_refl}
use Prim.Native.Nat.{ℕ, ◌+◌}
use lib.Seq.{sets}
use Rattle.records.specs.Record.{word}
use Rattle.records.proofs.Stored.{sets_append, sets_comm}
use Rattle.records.proofs.put_record.Goals as goal

pub returns : goal.returns
returns c =
    let a = c.args in
    let front = word a.mark ++ word a.first in
    c.put_word-3.ensures
    ∙ ap (λ (l : List ℕ). sets l (a.at + 2) (word a.first)) c.put_word-2.ensures
    ∙ ap (λ (l : List ℕ). sets (sets l a.at (word a.mark)) (a.at + 2) (word a.first)) c.put_word.ensures
    ∙ sets_append (word a.mark) (word a.first) (sets a.out.now (a.at + 4) (word a.second)) a.at
    ∙ sym (sets_comm front (word a.second) a.out.now a.at (a.at + 4) (le_refl (a.at + 4)))
    ∙ sets_append front (word a.second) a.out.now a.at

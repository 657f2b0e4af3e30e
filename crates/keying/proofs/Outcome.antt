-- What follows from the promise of `key`: one outcome, and what was written.
-- Assumes nothing.
use mathlib.Core.List.{List, ◌++◌}
use mathlib.Core.Bool.{Bool, cond}
use mathlib.Core.Path.{◌≡◌, refl, sym, ap, ◌∙◌}
use Prim.Native.Nat.{ℕ, ◌+◌, ◌≤◌}
use native.Mathlib.Omega.{arith}
use lib.Dec.{eqb}
use lib.ListN.{length, drop, length-append}
use lib.Seq.{sets, sets-eq}
use Rattle.std.specs.Prelude.{Result, Ok, Err}
use Rattle.records.specs.declared.Record.{Record}
use Rattle.records.specs.Store.{Stores}
use Rattle.keying.specs.Slip.{slip_number}
use Rattle.keying.specs.Text.{mistake, Meaning, meaning}
use Rattle.keying.specs.Keys.{Answers, left, Keys}
use Rattle.keying.specs.Inner.Walk.{joined, Walks}
use Rattle.keying.specs.declared.entry.Slip.{Slip}
use Rattle.keying.specs.declared.entry.Slip.TheVariants.{UnknownWord, MissingField, ExtraField, NotNumber, TooLarge, TooMany, CommaNumber}
use Rattle.keying.specs.declared.keyed.Mistake.{Mistake}
use Rattle.keying.proofs.Walk.{meaning_few, calls_keep, calls_stored}

-- ---- from the two walks
module _ {F : Type 0} {call : F → ℕ → Record → F → Type 0} {text : List ℕ} {f g : F} where
  -- a mistake leaves the bytes lent
  pub keys_wrong : (m : Mistake) (old : List ℕ) → Walks text call f (Err m) g → Keys text old (Err m) old
  keys_wrong m old w = record { answer = w.answer; bytes = ap (λ e. left e (meaning text).file old) (sym w.answer) }

  -- what each call keeps, the walk keeps
  pub walks_keep : {r : Result ℕ Mistake} → Walks text call f r g → (name : F → ℕ) → ((f : F) (at : ℕ) (r : Record) (g : F) → call f at r g → name g ≡ name f) → name g ≡ name f
  walks_keep w name keeps = calls_keep call name keeps w.told f 0 g w.calls

  -- where each call stores its record, and the bytes lent are enough for a full file
  pub keys_written : (out : F → List ℕ) → ((f : F) (at : ℕ) (r : Record) (g : F) → call f at r g → (fits : Bool) × Stores r at (out f) fits (out g))
      → 24576 ≤ length (out f) → (n : ℕ) (r : Result ℕ Mistake) → Answers (meaning text) (Ok n) → Walks text call f r g → Keys text (out f) r (out g)
  keys_written out stores room n r whole w =
      let few : length (joined w.told) ≤ 24576 = rw w.file at (meaning_few text) in
      let all : 0 + length (meaning text).file ≡ length (meaning text).file = omega arith in
      record {
        answer = w.answer;
        bytes = calls_stored call out stores w.told f 0 g (omega (arith, few, room)) w.calls
            ∙ ap (λ l. sets (out f) 0 l) (sym w.file) ∙ sets-eq (meaning text).file (out f) 0 (omega (arith, meaning_few text, room))
            ∙ ap (λ k. (meaning text).file ++ drop k (out f)) all ∙ ap (λ e. left e (meaning text).file (out f)) (sym whole.0);
      }

-- ---- one outcome
slip_one : (s t : Slip) → slip_number s ≡ slip_number t → s ≡ t
slip_one s t e = sym (back s) ∙ ap named e ∙ back t
  where
    named : ℕ → Slip
    named n =
        cond (eqb n 1) UnknownWord (cond (eqb n 2) MissingField (cond (eqb n 3) ExtraField
        (cond (eqb n 4) NotNumber (cond (eqb n 5) TooLarge (cond (eqb n 6) TooMany CommaNumber)))))

    back : (s : Slip) → named (slip_number s) ≡ s
    back UnknownWord = refl
    back MissingField = refl
    back ExtraField = refl
    back NotNumber = refl
    back TooLarge = refl
    back TooMany = refl
    back CommaNumber = refl

mistake_one : (l e n s z l' e' n' s' z' : ℕ) → mistake l e n s z ≡ mistake l' e' n' s' z' → (l ≡ l') × (e ≡ e') × (n ≡ n') × (s ≡ s') × (z ≡ z')
mistake_one l e n s z l' e' n' s' z' p = (cc, cc, cc, cc, cc)

answers_one : (m : Meaning) (r s : Result ℕ Mistake) → Answers m r → Answers m s → r ≡ s
answers_one m (Ok n) (Ok k) x y = ap Ok (x.1 ∙ sym y.1)
answers_one m (Ok n) (Err a) x y = absurd (let z : ◌≡◌ {A = ℕ} 0 1 = cc (sym x.0 ∙ y) in omega arith)
answers_one m (Err a) (Ok k) x y = absurd (let z : ◌≡◌ {A = ℕ} 0 1 = cc (sym y.0 ∙ x) in omega arith)
answers_one m (Err a) (Err b) x y =
    let same = mistake_one _ _ _ _ _ _ _ _ _ _ (sym x ∙ y) in
    let slip = slip_one a.slip b.slip same.2 in
    λ i. Err (record { line = same.0 i; entry = same.1 i; slip = slip i; start = same.3 i; size = same.4 i })

pub keys_only : (text out : List ℕ) (r s : Result ℕ Mistake) (a b : List ℕ) → Keys text out r a → Keys text out s b → (r ≡ s) × (a ≡ b)
keys_only text out r s a b p q = (answers_one (meaning text) r s p.answer q.answer, p.bytes ∙ sym q.bytes)

-- what is written lies within the bytes lent
pub written_within : (text out : List ℕ) (n : ℕ) (after : List ℕ) → Keys text out (Ok n) after → n ≤ length after
written_within text out n after k =
    let file = (meaning text).file in
    omega (arith, ap length (k.bytes ∙ ap (λ e. left e file out) k.answer.0), length-append file (drop (length file) out), k.answer.1)

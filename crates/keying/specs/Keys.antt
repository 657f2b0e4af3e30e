-- What `key` promises: its answer, and the bytes lent to it.
-- Assumes nothing.
use Rattle.std.specs.Prelude.{List, ◌++◌, ◌≡◌, ℕ, length, drop, Result, Ok, Err}
use Rattle.keying.specs.Slip.{slip_number}
use Rattle.keying.specs.Text.{Ending, complete, mistake, Meaning, meaning}
use Rattle.keying.specs.declared.keyed.Mistake.{Mistake}

-- the values of every case: the bytes written; the line, the entry, the number, the place and the size of a mistake
abbrev pub Says : Result ℕ Mistake → (ℕ → Type 0) → (ℕ → ℕ → ℕ → ℕ → ℕ → Type 0) → Type 0
Says (Ok n) P Q = P n
Says (Err m) P Q = Q m.line m.entry (slip_number m.slip) m.start m.size

-- the bytes of the file, or its first mistake
abbrev pub Answers : Meaning → Result ℕ Mistake → Type 0
Answers m r = Says r (λ n. (m.ending ≡ complete) × (n ≡ length m.file)) (λ line entry number start size. m.ending ≡ mistake line entry number start size)

-- the file, and the bytes beyond it as they were; after a mistake all as it was
abbrev pub left : Ending → List ℕ → List ℕ → List ℕ
left complete file out = file ++ drop (length file) out
left (mistake line entry number start size) file out = out

-- what key promises
pub record Keys (text out : List ℕ) (r : Result ℕ Mistake) (after : List ℕ) : Type 0 where
  pub answer : Answers (meaning text) r
  pub bytes : after ≡ left (meaning text).ending (meaning text).file out

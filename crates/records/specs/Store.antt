-- A record stored at an offset.
-- Assumes nothing.
use Rattle.std.specs.Prelude.{Bool, cond, List, ◌≡◌, ℕ, ◌+◌, leb, length}
use Rattle.std.proofs.lemmas.List.Edits.{sets}
use Rattle.records.specs.declared.Record.{Record}
use Rattle.records.specs.Record.{bytes_of, length_of}

-- what store promises: whether the record's bytes fit from the offset on, and if so they stand there; every other byte stays
pub record Stores (r : Record) (at : ℕ) (old : List ℕ) (fits : Bool) (new : List ℕ) : Type 0 where
  pub answer : fits ≡ leb (at + length_of r) (length old)
  pub bytes : new ≡ cond fits (sets old at (bytes_of r)) old

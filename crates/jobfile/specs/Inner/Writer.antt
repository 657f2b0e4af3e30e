-- Counting the pairs, and writing on.
-- Assumes nothing.
use Rattle.std.specs.Prelude.{List, ◌≡◌, ℕ, ◌+◌, ◌≤◌, length}
use Rattle.std.specs.List.{sum_by}
use Rattle.std.proofs.lemmas.List.Edits.{sets}
use Rattle.schedule.specs.Count.{count}
use Rattle.sets.specs.Sets.{has}
use Rattle.jobfile.specs.declared.writer.Written.{Written}
use Rattle.jobfile.specs.Writer.{gather, bytes_of_all, job_record, follower_records}

-- the sizes of the sets together
abbrev pub pairs_in : List ℕ → ℕ
pairs_in before = sum_by (λ set. count 64 (has set)) before

-- the bytes of all jobs, of the pairs of one first job, and of all pairs
abbrev pub jobs_bytes : List ℕ → List ℕ → List ℕ
jobs_bytes starts latest = bytes_of_all (gather (length starts) (job_record starts latest))

abbrev pub followers_bytes : List ℕ → ℕ → List ℕ
followers_bytes before a = bytes_of_all (follower_records (length before) before a)

abbrev pub orders_bytes : List ℕ → List ℕ
orders_bytes before = bytes_of_all (gather (length before) (follower_records (length before) before))

-- as many more bytes fit
abbrev pub HasRoom : List ℕ → Written → Type 0
HasRoom bytes file = file.at + length bytes ≤ length file.out.now

-- more is written: bytes are stored at the offset, the next offset is past them, and the bytes lent are still the same
pub record Continues (bytes : List ℕ) (from to : Written) : Type 0 where
  pub stored : to.out.now ≡ sets from.out.now from.at bytes
  pub next : to.at ≡ from.at + length bytes
  pub lent : to.out.ghost_name ≡ from.out.ghost_name

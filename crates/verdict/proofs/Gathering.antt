-- A walk that gathers rows: where it stands, and what it tells.
-- Assumes nothing.
use mathlib.Core.List.{List, [], ◌∷◌, ◌++◌}
use mathlib.Core.Path.{◌≡◌, refl, sym, ap, ◌∙◌}
use Prim.Native.Nat.{ℕ, ◌+◌}
use native.Mathlib.Omega.{arith}
use lib.ListN.{length}
use Rattle.std.specs.Prelude.{Some, None, Ok, Err}
use Rattle.records.specs.declared.Record.{Record}
use Rattle.refusal.specs.declared.Refusal.{Refusal}
use Rattle.records.specs.Record.{length_of}
use Rattle.records.specs.Find.{Finds}
use Rattle.verdict.specs.Gathered.{start_of, deadline_of, pair_of}
use Rattle.verdict.specs.Inner.Gather.{Holds, Room, Enters, Gathers}
use Rattle.verdict.specs.declared.gather.Rows.{Rows}
use Rattle.verdict.proofs.Walk.{Behind, behind_more, found_within, ends_whole, ends_stopped}
use Rattle.verdict.proofs.Rows.{given_last, given_few, given_alike, start_few, pair_few}

pub record Gathering (file : List ℕ) (at : ℕ) (rows : Rows) : Type 0 where
  pub done : List Record
  pub behind : Behind file at done
  pub holds : Holds done rows

module _ (file : List ℕ) (at : ℕ) (rows : Rows) (w : Gathering file at rows) where
  -- room for a record more
  pub gathering_room : (r : Record) → Finds file at (Ok (Some r)) → Room rows
  gathering_room r f =
      let x = found_within file at (length_of r) r f refl in
      let h = w.holds in
      let starts = given_few start_of 1 w.done start_few in
      let pairs = given_few pair_of 2 w.done pair_few in
      record {
        starts = omega (arith, w.behind.few, ap length h.starts);
        deadlines = omega (arith, w.behind.few, ap length h.deadlines, given_alike w.done);
        pairs = omega (arith, w.behind.few, ap length h.pairs);
      }

  pub gathering_more : (r : Record) (size : ℕ) (to : Rows) → Finds file at (Ok (Some r)) → size ≡ length_of r → Enters r rows to → Gathering file (at + size) to
  gathering_more r size to f e x = record {
    done = w.done ++ (r ∷ []);
    behind = behind_more file at size w.done r w.behind f e;
    holds = record {
      starts = x.starts ∙ ap (λ l. l ++ start_of r) w.holds.starts ∙ sym (given_last start_of w.done r);
      deadlines = x.deadlines ∙ ap (λ l. l ++ deadline_of r) w.holds.deadlines ∙ sym (given_last deadline_of w.done r);
      pairs = x.pairs ∙ ap (λ l. l ++ pair_of r) w.holds.pairs ∙ sym (given_last pair_of w.done r);
    };
  }

  pub gathers_whole : Finds file at (Ok None) → Gathers file rows (Ok tt)
  gathers_whole f = record { records = w.done; ends = (ends_whole file at w.done w.behind f, w.holds) }

  pub gathers_stopped : (refusal : Refusal) → Finds file at (Err refusal) → Gathers file rows (Err refusal)
  gathers_stopped refusal f = record { records = w.done; ends = ends_stopped file at w.done w.behind refusal f }

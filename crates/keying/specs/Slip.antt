-- What can be wrong with a keyed text: the number of each mistake, and its words. These numbers are keying's own and not document 01's.
-- Assumes nothing.
use Rattle.std.specs.Prelude.{ℕ, List, codes}
use Rattle.keying.specs.declared.entry.Slip.{Slip}
use Rattle.keying.specs.declared.entry.Slip.TheVariants.{UnknownWord, MissingField, ExtraField, NotNumber, TooLarge, TooMany, CommaNumber}

abbrev pub slip_number : Slip → ℕ
slip_number UnknownWord = 1
slip_number MissingField = 2
slip_number ExtraField = 3
slip_number NotNumber = 4
slip_number TooLarge = 5
slip_number TooMany = 6
slip_number CommaNumber = 7

-- the words for each
abbrev pub slip_text : Slip → List ℕ
slip_text UnknownWord = codes "unknown word"
slip_text MissingField = codes "missing field"
slip_text ExtraField = codes "extra field"
slip_text NotNumber = codes "not a number"
slip_text TooLarge = codes "number too large"
slip_text TooMany = codes "too many records"
slip_text CommaNumber = codes "number with a comma"

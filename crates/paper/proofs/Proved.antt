-- The examples marked (P), as one statement over their table: the definitions answer each question as the documents do. antt computes both sides.
-- Assumes nothing.
use mathlib.Core.Path.{◌≡◌, refl}
use mathlib.Core.List.{map}
use Rattle.groups.specs.Numbers.{number, digits, tab, leading_in}
use Rattle.groups.specs.Layout.{width, groups_of, side, digits_at, offset}
use Rattle.groups.specs.Packed.{flip, flip_first, digits_in}
use Rattle.groups.specs.Read.{in_range, group_at, range_at, unit_of, stored_at, groups_in, read_groups}
use Rattle.groups.specs.Sign.{is_nought, below_zero, signed_nought}
use Rattle.groups.specs.Write.{digits_ok, well_at, well_groups, well_formed, group_digits, digits_to}
use Rattle.printing.specs.Print.{unpadded, whole_digits, fraction_text}
use Rattle.kept.specs.Kept.{without}
use Rattle.decimal.specs.Read.{negative, decimal_of, or_nought, finished, from_groups, read_bin, read_packed}
use Rattle.decimal.specs.Text.{printed}
use Rattle.raw.specs.Numbers.{value, le}
use Rattle.length_field.specs.Length.{groups, length_at}
use Rattle.codes.specs.Lists.{search as searched}
use Rattle.codes.specs.Types.{type_of}
use Rattle.codes.specs.Literals.{type_of as literal_type}
use Rattle.layout.specs.Layout.{offset_size, key_entry, key_place, value_place, header_size, offset_at}
use Rattle.content.specs.Reading.{literal_at, number_at, part_at, string_at, content_at, read_at}
use Rattle.header.specs.Headers.{header_at, place_of, header_read}
use Rattle.entry.specs.Entries.{pointed_at, typed_entry, entry_at, key_of, key_entry_at, start_of, value_start}
use Rattle.gate.specs.Said.{Said}
use Rattle.jsonb.specs.Views.{root_read, elem_at, key_at}
use Rattle.gate.specs.Before.{matches, gated}
use Rattle.rfc3629.specs.Machine.{lead, run}
use Rattle.events.specs.Events.{kind_code, bytes_from}
use Rattle.events.specs.Text.{text_at}
use Rattle.paths.specs.Paths.{gather, tree, paths, last_of, above, is_same, index_of, said, scan}
use Rattle.paths.specs.Shown.{cut, flat, ends, shown}
use Rattle.paper.specs.Paper.{Row, Thing, prints, printed_or, root_view, asked, table}

pub proved : map (λ (r : Row × Said Thing). asked r.0) table ≡ map (λ (r : Row × Said Thing). r.1) table
unfolding prints is_nought below_zero signed_nought digits_ok well_at well_groups well_formed number digits tab width groups_of side digits_at offset flip flip_first digits_in in_range group_at range_at unit_of stored_at groups_in read_groups group_digits digits_to unpadded whole_digits fraction_text negative decimal_of or_nought leading_in without finished from_groups read_bin read_packed printed printed_or value le groups length_at searched type_of literal_type offset_size key_entry key_place value_place header_size offset_at header_at literal_at number_at part_at string_at content_at place_of read_at header_read pointed_at typed_entry entry_at key_of key_entry_at root_read matches gated elem_at key_at root_view start_of value_start lead run kind_code bytes_from text_at gather tree paths last_of above is_same index_of said scan cut flat ends shown asked
proved = refl

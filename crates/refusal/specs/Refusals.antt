-- The numbers of the refusals (document 01, 'Refusals').
-- Assumes nothing.
use Rattle.std.specs.Prelude.{ℕ}
use Rattle.refusal.specs.declared.Refusal.{Refusal}
use Rattle.refusal.specs.declared.Refusal.TheVariants as refusal

abbrev pub number_of : Refusal → ℕ
number_of refusal.Document = 1
number_of refusal.Type = 2
number_of refusal.Cut = 3
number_of refusal.Size = 4
number_of refusal.Key = 5
number_of refusal.Pointer = 6
number_of refusal.Literal = 7
number_of refusal.Length = 8
number_of refusal.Utf8 = 9
number_of refusal.Column = 10
number_of refusal.Depth = 11
number_of refusal.Events = 12
number_of refusal.View = 13
number_of refusal.Range = 20
number_of refusal.Short = 21
number_of refusal.Group = 22
number_of refusal.Text = 23
number_of refusal.Digits = 24
number_of refusal.Room = 25
number_of refusal.Record = 26
number_of refusal.TimeField = 30
number_of refusal.TimeShort = 31

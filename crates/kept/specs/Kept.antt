-- What is left where the precision is not kept (document 01, 'Decimal rules'): without kept precision, leading integral groups that are
-- zero are dropped, and their digits with them. i integral digits take groups_of i groups, of which only the first can have fewer than nine.
-- Assumes nothing.
use Rattle.std.specs.Prelude.{ℕ, ◌+◌, ◌-◌, ◌*◌, cond, List, eqb, get_or}
use Rattle.groups.specs.Numbers.{tab, leading_in}
use Rattle.groups.specs.Layout.{groups_of}
use Rattle.groups.specs.declared.Parts.{Parts}

-- integral digits, and the groups of a decimal that has so many
pub record Kept : Type 0 where
  pub intg : ℕ
  pub groups : List ℕ

-- without the first z integral groups: the others move up, and each of them is whole
unfoldable pub without : ℕ → ℕ → List ℕ → Kept
without z i gs = cond (eqb z 0) (record { intg = i; groups = gs }) (record { intg = 9 * (groups_of i - z); groups = tab 9 (λ k. get_or gs (k + z) 0) })

-- without the leading integral groups that are zero. This is said of every i: digits above 81 would take more groups than the nine that there
-- are, and of those at most the nine are dropped
abbrev pub without_leading : ℕ → List ℕ → Kept
without_leading i gs = without (leading_in (groups_of i) gs) i gs

-- the parts of a decimal with what is left of them
abbrev pub kept_parts : Parts → Parts
kept_parts p =
    record {
      negative = p.negative;
      intg = (without_leading p.intg p.groups).intg;
      frac = p.frac;
      groups = (without_leading p.intg p.groups).groups;
    }

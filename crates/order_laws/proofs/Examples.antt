-- The examples of `plain`, as one statement over their table: antt computes both sides.
-- Assumes nothing.
use mathlib.Core.Path.{◌≡◌, refl}
use mathlib.Core.List.{map}
use Rattle.order_laws.specs.Plain.{without_front, without_end, without_last_point, before_point, from_point, plain_number, plain}
use Rattle.order_laws.specs.Examples.{Row, table}

pub examples : map (λ (r : Row). plain r.0) table ≡ map (λ (r : Row). r.1) table
unfolding table without_front without_end without_last_point before_point from_point plain_number plain
examples = refl

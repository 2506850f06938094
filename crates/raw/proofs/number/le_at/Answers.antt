-- Where all bytes are there they are those of the document, and otherwise those that are there make the same number.
-- Assumes nothing.
use Rattle.std.proofs.Common.{◌≡◌, sym, drop, arith, rules}
use Rattle.raw.specs.Numbers.{value, le}
use Rattle.raw.proofs.Bounds.{le-inside, le-part, le_below, first_eight}
use Rattle.raw.proofs.number.le_at.Goals as goal

pub returns-in-0 : goal.returns-in-0
unfolding value
returns-in-0 g c =
    let a = c.args in
    let b = le_below g.row.W a.doc.now a.at a.end (λ k. (c.type_inv.doc k).fits) in
    record { value = sym (le-part g.row.W 0 a.doc.now a.at a.end (omega arith) (omega arith)); upper_bound = omega arith }

pub returns-in_default : goal.returns-in_default
returns-in_default g c =
    let a = c.args in
    let n = c.left.result in
    let p = le-part g.row.W n a.doc.now a.at a.end (omega arith) (omega arith) in
    let e : c.few.result ≡ le g.row.W a.doc.now a.at a.end = search (rules, p) in
    record { value = e; upper_bound = rw e (le_below g.row.W a.doc.now a.at a.end (λ k. (c.type_inv.doc k).fits)) }

pub returns-in_default-2 : goal.returns-in_default-2
returns-in_default-2 g c =
    let a = c.args in
    let p = le-inside g.row.W a.doc.now a.at a.end (omega arith) in
    let f = first_eight g.row.W (drop a.at a.doc.now) (omega arith) in
    let e : c.number_of.result ≡ le g.row.W a.doc.now a.at a.end = search (rules, p, f) in
    record { value = e; upper_bound = rw e (le_below g.row.W a.doc.now a.at a.end (λ k. (c.type_inv.doc k).fits)) }

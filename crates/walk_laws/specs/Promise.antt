-- The theorem of the walk (document 01, 'The walk'). `Walks d out r left`, the promise of the code, is about a document d, a lent list `out`, the answer r
-- and what is `left` in the lent list. Its meaning is said here without the order of any computing: which paths there are, which can be read, when a walk
-- of them succeeds and what it then leaves, and where it stops otherwise. The statements stand at the end; proofs/Theorem.antt proves them together.
-- Assumes nothing.
use Rattle.std.specs.Prelude.{ℕ, zero, suc, ◌+◌, ◌*◌, ◌-◌, ◌≤◌, ◌<◌, ◌≡◌, cond, ◌↔◌, ◌⊎◌, eqb, length, get_or, take, drop, Ok, Err}
use mathlib.Core.List.{List, [], ◌∷◌, ◌++◌, map, Memᴰ}
use Rattle.std.proofs.Math.Seq.{slice}
use Rattle.rfc3629.specs.Grammar.{Utf8, Begins, Unfinished}
use Rattle.codes.specs.declared.types.JsonbType.{JsonbType}
use Rattle.codes.specs.declared.types.JsonbType.TheVariants as type
use Rattle.value.specs.declared.Span.{Span}
use Rattle.value.specs.declared.Scalar.{Scalar}
use Rattle.value.specs.declared.Scalar.TheVariants as scalar
use Rattle.value.specs.declared.Value.{Value}
use Rattle.value.specs.declared.Value.TheVariants as value
use Rattle.gate.specs.Said.{Said, says, nothing, refuses}
use Rattle.events.specs.declared.Event.{Event}
use Rattle.events.specs.Walked.{Walked, Done, Stopped}
use Rattle.events.specs.Events.{no_key, event_of, numbers, wide}
use Rattle.events.specs.Text.{bytes, text_at}
use Rattle.paths.specs.Judged.{Stand, spot}
use Rattle.events.specs.Lay.{room}
use Rattle.paths.specs.Paths.{root_stand, Below, Before, Item, item, paths, last_of, parent_in}
use Rattle.paths.specs.Shown.{Walks}

-- ---- keys and strings are UTF-8: the part lies in the document, and its bytes are in RFC 3629's grammar
pub record IsUtf8 (d : List ℕ) (s : Span) : Type 0 where
  pub inside : s.start + s.len ≤ length d
  pub octets : Utf8 (bytes d s)

-- of values, strings alone are text
abbrev pub ScalarUtf8 : List ℕ → Scalar → Type 0
ScalarUtf8 d scalar.Null = Unit {0}
ScalarUtf8 d (scalar.Boolean b) = Unit {0}
ScalarUtf8 d (scalar.Number x) = Unit {0}
ScalarUtf8 d (scalar.String s) = IsUtf8 d s
ScalarUtf8 d (scalar.Opaque c s) = Unit {0}

abbrev pub ValueUtf8 : List ℕ → Value → Type 0
ValueUtf8 d (value.Scalar t s) = ScalarUtf8 d s
ValueUtf8 d (value.Container v) = Unit {0}

-- ---- where one breaks that is not: at the place p of the document there are whole characters from the part's start on, then bytes up to p that begin a
-- character which has more, and no way on. Either the part ends at p inside that character, or no character begins with those bytes and the byte at p
pub record BreaksAt (d : List ℕ) (s : Span) (p : ℕ) : Type 0 where
  pub inside : s.start + s.len ≤ length d
  pub begun : ℕ
  pub order : (s.start ≤ begun) × (begun ≤ p) × (p ≤ s.start + s.len)
  pub whole : Utf8 (slice s.start begun d)
  pub unfinished : Unfinished (slice begun p d)
  pub ended : p ≡ s.start + s.len → begun < p
  pub stuck : p < s.start + s.len → Begins (slice begun (p + 1) d) → ⊥

abbrev pub ScalarBreaks : List ℕ → Scalar → ℕ → Type 0
ScalarBreaks d scalar.Null p = ⊥
ScalarBreaks d (scalar.Boolean b) p = ⊥
ScalarBreaks d (scalar.Number x) p = ⊥
ScalarBreaks d (scalar.String s) p = BreaksAt d s p
ScalarBreaks d (scalar.Opaque c s) p = ⊥

abbrev pub ValueBreaks : List ℕ → Value → ℕ → Type 0
ValueBreaks d (value.Scalar t s) p = ScalarBreaks d s p
ValueBreaks d (value.Container v) p = ⊥

-- ---- the path leads from the root to what stands at s: each position is below the count of the container that those before it reach
abbrev pub Leads : List ℕ → List ℕ → Stand → Type 0
Leads d π s = Below d (root_stand d) π s

-- a key, where there is to be one, and a value are said, and they are UTF-8 where they are text
pub record Readable (d : List ℕ) (s : Stand) : Type 0 where
  pub key : Span
  pub key_said : s.key ≡ says key
  pub key_utf8 : IsUtf8 d key
  pub value : Value
  pub value_said : s.value ≡ says value
  pub value_utf8 : ValueUtf8 d value

-- every path can be read, and none is longer than 100
pub record AllRead (d : List ℕ) : Type 0 where
  pub readable : {π : List ℕ} {s : Stand} → Leads d π s → Readable d s
  pub near : {π : List ℕ} {s : Stand} → Leads d π s → length π ≤ 100

-- ---- paths in order: a path before its extensions, and otherwise by position. No path is before itself, so each stands there once
unfoldable pub Ascending : List Item → Type 0
Ascending [] = Unit {0}
Ascending (x ∷ xs) = ((y : Item) → Memᴰ y xs → Before x.path y.path) × Ascending xs

-- all paths of some kind and no other, in order, and what they lead to
pub record Lists (d : List ℕ) (kind : List ℕ → Type 0) (xs : List Item) : Type 0 where
  pub all : {π : List ℕ} {s : Stand} → Leads d π s → kind π → Memᴰ (item π s) xs
  pub only : (x : Item) → Memᴰ x xs → Leads d x.path x.stand
  pub those : (x : Item) → Memᴰ x xs → kind x.path
  pub order : Ascending xs

-- every path, whether or not others share its bytes or its key
abbrev pub Everything : List ℕ → List Item → Type 0
Everything d xs = Lists d (λ π. Unit {0}) xs

-- the paths of at most 101 positions: where one has 101, a walk stops there or earlier
abbrev pub UpTo101 : List ℕ → List Item → Type 0
UpTo101 d xs = Lists d (λ π. length π ≤ 101) xs

-- ---- events
-- a path that can be read has a key and a value, and what stands here for others is never shown
abbrev pub key_in : Said Span → Span
key_in (says k) = k
key_in nothing = no_key
key_in (refuses n) = no_key

abbrev pub value_in : Said Value → Value
value_in (says x) = x
value_in nothing = value.Scalar type.Literal scalar.Null
value_in (refuses n) = value.Scalar type.Literal scalar.Null

-- the event of a path among those that are listed: its length, its last position, its key, its value, and the index of its container
abbrev pub event_at : List Item → Item → Event
event_at xs x =
    event_of (spot (length x.path) (last_of x.path) (parent_in xs x) x.stand.place (key_in x.stand.key) x.stand.from)
    (value_in x.stand.value)

-- the numbers of some of them
unfoldable pub events_in : List Item → List Item → List ℕ
events_in all [] = []
events_in all (x ∷ xs) = numbers (event_at all x) ++ events_in all xs

-- how events in order name paths, by depth and position: a path has its depth's positions, the last is its own, and those before it are the first of the
-- path before it
abbrev pub name_after : List ℕ → ℕ → ℕ → List ℕ
name_after π depth i = cond (eqb depth 0) [] (take (depth - 1) π ++ i ∷ [])

unfoldable pub names_after : List ℕ → List Event → List (List ℕ)
names_after π [] = []
names_after π (e ∷ es) = name_after π e.depth e.position ∷ names_after (name_after π e.depth e.position) es

-- a lent list with the events of paths at its front and the rest as it was
abbrev pub written : List Item → List ℕ → List ℕ
written xs out = events_in xs xs ++ drop (wide * length xs) out

-- ---- climbing (document 02, W6), by what stands in the list that is left
-- what event k shows as its depth, its position and the index of its container: the second, the third and the ninth number
abbrev pub depth_in : List ℕ → ℕ → ℕ
depth_in left k = get_or left (wide * k + 1) 0

abbrev pub position_in : List ℕ → ℕ → ℕ
position_in left k = get_or left (wide * k + 2) 0

abbrev pub climb : List ℕ → ℕ → ℕ
climb left k = get_or left (wide * k + 8) 0

-- the event to which so many climbs lead
unfoldable pub climbs : List ℕ → ℕ → ℕ → ℕ
climbs left zero k = k
climbs left (suc t) k = climbs left t (climb left k)

-- the path of event k
unfoldable pub path_at : List Item → ℕ → List ℕ
path_at [] k = []
path_at (x ∷ xs) zero = x.path
path_at (x ∷ xs) (suc k) = path_at xs k

-- from event k, whose depth is its path's length, one climbs to an earlier event, whose path is that of k without its last position, k's own; and after as
-- many climbs as the depth, and not sooner, one is at the root, which stands first and whose own number is 0
pub record Climbs (xs : List Item) (left : List ℕ) (k : ℕ) : Type 0 where
  pub depth : depth_in left k ≡ length (path_at xs k)
  pub up : 1 ≤ depth_in left k → (climb left k < k) × (path_at xs k ≡ path_at xs (climb left k) ++ position_in left k ∷ [])
  pub ends : climbs left (depth_in left k) k ≡ 0
  pub sooner : (t : ℕ) → t < depth_in left k → climbs left t k ≡ 0 → ⊥
  pub root : depth_in left k ≡ 0 → climb left k ≡ 0

-- ---- what is wrong with a path, by its number and its place: 11, the key 5, the key 9, the value, a string 9; each where those before it are not. A text's
-- place is where it breaks, any other that of an entry
pub data Wrong (d : List ℕ) (x : Item) : ℕ → ℕ → Type 0 where
  deep : 100 < length x.path → Wrong d x 11 x.stand.place
  key-refused : {f : ℕ} → length x.path ≤ 100 → x.stand.key ≡ refuses f → Wrong d x f x.stand.key_place
  key-octets : {k : Span} (p : ℕ) → length x.path ≤ 100 → x.stand.key ≡ says k → BreaksAt d k p → Wrong d x 9 p
  value-refused : {k : Span} {f : ℕ} → length x.path ≤ 100 → x.stand.key ≡ says k → IsUtf8 d k → x.stand.value ≡ refuses f →
      Wrong d x f x.stand.place
  value-octets : {k : Span} {y : Value} (p : ℕ) → length x.path ≤ 100 → x.stand.key ≡ says k → IsUtf8 d k → x.stand.value ≡ says y →
      ValueBreaks d y p → Wrong d x 9 p

-- a path that is listed
pub record Good (d : List ℕ) (x : Item) : Type 0 where
  pub near : length x.path ≤ 100
  pub readable : Readable d x.stand

-- after n events, with room for k, a walk stops at a path: it is wrong, or there is no room for its event, 12
pub data StopsAt (d : List ℕ) (k n : ℕ) (x : Item) : ℕ → ℕ → Type 0 where
  wrong : {f p : ℕ} → n ≤ k → Wrong d x f p → StopsAt d k n x f p
  full : n ≡ k → Good d x → StopsAt d k n x 12 x.stand.place

-- of paths in order the first n are good, and at the one after them the walk stops
pub record Halt (d : List ℕ) (xs : List Item) (k f p n : ℕ) : Type 0 where
  pub before : List Item
  pub at : Item
  pub after : List Item
  pub split : xs ≡ before ++ at ∷ after
  pub count : n ≡ length before
  pub good : (y : Item) → Memᴰ y before → Good d y
  pub stops : StopsAt d k n at f p

-- ---- the statements
-- a walk succeeds exactly when every path can be read, none is longer than 100, and there is room for one event for each path
pub record Room (d out : List ℕ) : Type 0 where
  pub paths : List Item
  pub every : Everything d paths
  pub fits : length paths ≤ room out

abbrev pub Success : Type 0
Success = (d out : List ℕ) (r : Walked) (left : List ℕ) → Walks d out r left → ((n : ℕ) × (r ≡ Done n)) ↔ (AllRead d × Room d out)

-- its events then name every path, each once and in order, and no other; the rest of the lent list is as it was
pub record Listed (xs : List Item) (out : List ℕ) (n : ℕ) (left : List ℕ) : Type 0 where
  pub count : n ≡ length xs
  pub leaves : left ≡ written xs out
  pub names : names_after [] (map (event_at xs) xs) ≡ map (λ x. x.path) xs

abbrev pub Listing : Type 0
Listing = (d out : List ℕ) (n : ℕ) (left : List ℕ) → Walks d out (Done n) left → (xs : List Item) → Everything d xs → Listed xs out n left

-- a walk is refused with a number and a place after n events exactly when the first path in order that is wrong or finds no room says so
abbrev pub Refusal : Type 0
Refusal = (d out : List ℕ) (r : Walked) (left : List ℕ) → Walks d out r left → (xs : List Item) → UpTo101 d xs → (f p n : ℕ) →
    (r ≡ Stopped f p n) ↔ Halt d xs (room out) f p n

-- the n events before it stand at the front, and the rest of the lent list is as it was
abbrev pub Untouched : Type 0
Untouched = (d out : List ℕ) (f p n : ℕ) (left : List ℕ) → Walks d out (Stopped f p n) left → (xs : List Item) → UpTo101 d xs →
    (h : Halt d xs (room out) f p n) → left ≡ written h.before out

-- the paths whose events stand: all of a walk that succeeds, or those before the path at which it is refused
pub data Standing (d out : List ℕ) : Walked → List Item → Type 0 where
  every : {n : ℕ} {xs : List Item} → Everything d xs → Standing d out (Done n) xs
  before : {f p n : ℕ} {xs : List Item} → UpTo101 d xs → (h : Halt d xs (room out) f p n) → Standing d out (Stopped f p n) h.before

-- from each of these events one climbs to the root
abbrev pub Climbing : Type 0
Climbing = (d out : List ℕ) (r : Walked) (left : List ℕ) → Walks d out r left → (xs : List Item) → Standing d out r xs → (k : ℕ) → k < length xs →
    Climbs xs left k

-- the paths in the definition of the promise are these paths
abbrev pub Promised : Type 0
Promised = (d : List ℕ) → UpTo101 d (paths d)

-- there are such lists of paths, and no two: the promise is about one list
abbrev pub Paths : Type 0
Paths = (d : List ℕ) → ((xs : List Item) × UpTo101 d xs) × (AllRead d → (xs : List Item) × Everything d xs)

abbrev pub OneList : Type 1
OneList = (d : List ℕ) (kind : List ℕ → Type 0) (xs ys : List Item) → Lists d kind xs → Lists d kind ys → xs ≡ ys

-- and a path leads to one place only
abbrev pub OnePlace : Type 0
OnePlace = (d π : List ℕ) (s t : Stand) → Leads d π s → Leads d π t → s ≡ t

-- the order is strict and total, and in a list in order no path stands twice
pub record StrictOrder : Type 0 where
  pub irreflexive : (π : List ℕ) → Before π π → ⊥
  pub transitive : {π ρ σ : List ℕ} → Before π ρ → Before ρ σ → Before π σ
  pub total : (π ρ : List ℕ) → Before π ρ ⊎ ((π ≡ ρ) ⊎ Before ρ π)
  pub once : (ws : List Item) (x y : Item) (xs ys : List Item) → Ascending (ws ++ x ∷ (xs ++ y ∷ ys)) → x.path ≡ y.path → ⊥

-- two answers that the promise allows are equal
abbrev pub OneAnswer : Type 0
OneAnswer = (d out : List ℕ) (r q : Walked) (left rest : List ℕ) → Walks d out r left → Walks d out q rest → (r ≡ q) × (left ≡ rest)

-- the test of text is RFC 3629's grammar, and of a part of the document it tells the place at which that breaks
pub record TextTest : Type 0 where
  pub valid : (d : List ℕ) (s : Span) → (text_at d s ≡ Ok _) ↔ IsUtf8 d s
  pub breaks : (d : List ℕ) (s : Span) (p : ℕ) → s.start + s.len ≤ length d → (text_at d s ≡ Err p) ↔ BreaksAt d s p

-- the keys and strings that paths lead to are such parts: they lie in the document
pub record TextInside (d : List ℕ) (s : Stand) : Type 0 where
  pub key : {k : Span} → s.key ≡ says k → k.start + k.len ≤ length d
  pub string : {t : JsonbType} {x : Span} → s.value ≡ says (value.Scalar t (scalar.String x)) → x.start + x.len ≤ length d

abbrev pub TextsInside : Type 0
TextsInside = (d π : List ℕ) (s : Stand) → Leads d π s → TextInside d s

-- together
pub record WalkTheorem : Type 1 where
  pub success : Success
  pub listing : Listing
  pub refusal : Refusal
  pub untouched : Untouched
  pub climbing : Climbing
  pub promised : Promised
  pub lists : Paths
  pub one_list : OneList
  pub one_place : OnePlace
  pub strict-order : StrictOrder
  pub one_answer : OneAnswer
  pub text-test : TextTest
  pub texts-inside : TextsInside

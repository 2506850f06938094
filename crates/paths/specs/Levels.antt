-- The walk by levels; no promise rests on it, and `listing-scan` says that it lists what a scan of all paths lists. An entry is read by the view alone,
-- without asking again whether the view is whole, and a child is listed with one level less. It counts events as it goes, so that a child is told the
-- index of its container's event.
-- Assumes nothing.
use Rattle.std.specs.Prelude.{ℕ, zero, suc, ◌+◌, ◌-◌, cond, List}
use Rattle.value.specs.declared.View.{View}
use Rattle.value.specs.declared.Value.{Value}
use Rattle.entry.specs.Entries.{place_at, key_place_at, entry_read, key_read, value_start}
use Rattle.gate.specs.Said.{says, read_said}
use Rattle.events.specs.Events.{no_key}
use Rattle.events.specs.Listing.{Listing, end, fault, event}
use Rattle.paths.specs.Judged.{Stand, judged, node}
use Rattle.paths.specs.Paths.{root_stand, view_of, count_of}

-- ---- listings one after the other
-- one listing and then another, which a fault keeps from coming
unfoldable pub ◌then◌ : Listing → Listing → Listing
end then m = m
fault n p then m = fault n p
event e p l then m = event e p (l then m)

infixr 50 ◌then◌
-- how many events there are
unfoldable pub size : Listing → ℕ
size end = 0
size (fault n p) = 0
size (event e p l) = suc (size l)

-- k entries, from entry i on, the first at event n
unfoldable pub entries : (ℕ → ℕ → Listing) → ℕ → ℕ → ℕ → Listing
entries f zero i n = end
entries f (suc k) i n = f i n then entries f k (suc i) (n + size (f i n))

abbrev pub entry_stand : List ℕ → View → ℕ → Stand
entry_stand d v i =
    record {
      place = place_at v i;
      key_place = key_place_at v i;
      key = cond v.kind.object (read_said (key_read d v i)) (says no_key);
      value = read_said (entry_read d v i);
      from = value_start d v i;
    }

-- entry i of the container of event m, at event n, and what is below it, with so many levels left below the container
unfoldable pub entry_listing : ℕ → List ℕ → View → ℕ → ℕ → ℕ → Listing
entry_listing zero d v m i n = fault 11 (place_at v i)
entry_listing (suc l) d v m i n =
    node (judged d (100 - l) i m (entry_stand d v i)) (place_at v i) (λ x. entries (entry_listing l d (view_of x) n) (count_of x) 0 (n + 1))

-- all entries of the value of event n
unfoldable pub children : ℕ → List ℕ → ℕ → Value → Listing
children l d n x = entries (entry_listing l d (view_of x) n) (count_of x) 0 (n + 1)

unfoldable pub listing : List ℕ → Listing
listing d = node (judged d 0 0 0 (root_stand d)) 0 (children 100 d 0)

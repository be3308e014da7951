-- The program's own words: which modules may begin and which are to be skipped, by places in their lists of upstreams.
use Rattle.std.specs.Prelude.{◌≡◌, ℕ, ◌+◌, ◌*◌, ◌/◌, ◌%◌, ◌<◌, ◌≤◌, ◌^◌, Bool, true, false, not, ◌&&◌, nat_eq, nat_le, List, [], ◌∷◌, length, map, get_or, slice_get, if◌then◌else◌}
use Rattle.std.specs.Int.{bit_at}
use Rattle.std.specs.List.{list_any}
use Rattle.event_core.specs.declared.progress_edges.Edge.{Edge}
use Rattle.scripts.specs.declared.outline.Outline.{Outline}
use Rattle.scripts.specs.declared.outline.ModuleOutline.{ModuleOutline}
use Rattle.event_core.specs.declared.module_steps.Progress.{Progress}
use Rattle.event_core.specs.HowFar.{is_done, is_lost, is_over, is_this, is_waiting, progress_of}

abbrev pub upstreams : Outline → List (List ℕ)
upstreams o = map (λ (m : ModuleOutline). m.upstream) o.modules

-- ---- marks

abbrev pub number_of_mark : Bool → ℕ
number_of_mark true = 1
number_of_mark false = 0

abbrev pub is_marked : List ℕ → ℕ → Bool
is_marked words k = nat_eq (bit_at (get_or words (k / 64) 0) (k % 64)) 1

-- ---- edges

-- whether an edge of these leads to this module, and whether to this place of it
abbrev pub is_touched : ℕ → List Edge → Bool
is_touched k edges = list_any (λ (e : Edge). nat_eq e.«module» k) edges

abbrev pub has_edge : ℕ → ℕ → List Edge → Bool
has_edge k place edges = list_any (λ (e : Edge). nat_eq e.«module» k && nat_eq e.place place) edges

-- the edges of each module are the places where it is an upstream
abbrev pub AreEdges : List (List ℕ) → List (List Edge) → Type 0
AreEdges ups edges = (m k place : ℕ) → m < length ups → has_edge k place (get_or edges m []) ≡ is_this (slice_get (get_or ups k []) place) m

-- ---- first places

-- a place before which none passes, and the first that does, or the list's end
pub record IsBefore (p : ℕ → Bool) (xs : List ℕ) (place : ℕ) : Type 0 where
  pub inside : place ≤ length xs
  pub before : (j : ℕ) → j < place → p (get_or xs j 0) ≡ false

pub record IsFirst (p : ℕ → Bool) (xs : List ℕ) (place : ℕ) : Type 0 where
  pub inside : place ≤ length xs
  pub before : (j : ℕ) → j < place → p (get_or xs j 0) ≡ false
  pub here : place < length xs → p (get_or xs place 0) ≡ true

abbrev pub is_unbuilt : List Progress → ℕ → Bool
is_unbuilt progress u = not (is_done (progress_of progress u))

abbrev pub is_lost_at : List Progress → ℕ → Bool
is_lost_at progress u = is_lost (progress_of progress u)

-- ---- what is marked

-- whether a module waits, and its place is its list's end, or isn't
abbrev pub same : Bool → Bool → Bool
same true b = b
same false b = not b

abbrev pub mark_of : List Progress → List (List ℕ) → List ℕ → Bool → ℕ → Bool
mark_of progress ups places beyond k = is_waiting (progress_of progress k) && same beyond (nat_le (length (get_or ups k [])) (get_or places k 0))

-- how many modules are not over
abbrev pub open_ones : List Progress → ℕ
open_ones [] = 0
open_ones (p ∷ progress) = (if is_over p then 0 else 1) + open_ones progress

-- all that is kept of how far the modules are belongs together
pub record IsFront (ups : List (List ℕ)) (progress : List Progress) (edges : List (List Edge)) (unbuilt lost ready skippable : List ℕ) (open_count : ℕ) : Type 0 where
  pub few : length ups < 2 ^ 32
  pub rows : length progress ≡ length ups
  pub edge_rows : length edges ≡ length ups
  pub unbuilt_rows : length unbuilt ≡ length ups
  pub lost_rows : length lost ≡ length ups
  pub ready_room : length ups < 64 * length ready
  pub ready_small : length ready < 2 ^ 32
  pub skippable_room : length ups < 64 * length skippable
  pub skippable_small : length skippable < 2 ^ 32
  pub are_edges : AreEdges ups edges
  pub unbuilt_first : (k : ℕ) → k < length ups → IsFirst (is_unbuilt progress) (get_or ups k []) (get_or unbuilt k 0)
  pub lost_first : (k : ℕ) → k < length ups → IsFirst (is_lost_at progress) (get_or ups k []) (get_or lost k 0)
  pub ready_marks : (k : ℕ) → k < length ups → is_marked ready k ≡ mark_of progress ups unbuilt true k
  pub skippable_marks : (k : ℕ) → k < length ups → is_marked skippable k ≡ mark_of progress ups lost false k
  pub all_open : open_count ≡ open_ones progress

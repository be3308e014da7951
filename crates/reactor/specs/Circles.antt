-- A project whose modules stand on one another in a circle. Guide to Working with Multiple Modules, "Reactor Sorting"; what is said of the
-- circle is a project rule.
use Rattle.std.specs.Prelude.{ℕ, List, [], ◌++◌, codes, flat_map, get_or, slice_get}
use Rattle.std.specs.Option.{option_map_or}
use Rattle.mvn_base.specs.Gav.{gav_text}
use Rattle.mvn_base.specs.declared.refusal.Place.TheVariants.{Name}
use Rattle.mvn_base.specs.declared.refusal.PomId.{PomId}
use Rattle.mvn_base.specs.declared.refusal.PomId.TheVariants as ids
use Rattle.mvn_base.specs.declared.refusal.Refusal.{Refusal}
use Rattle.mvn_base.specs.declared.rule.Rule.TheVariants.{ReactorCycle}
use Rattle.model_types.specs.declared.model.Model.{Model}

-- the coordinates of the module of a number, and its POM
abbrev pub gav_at : List Model → ℕ → List ℕ
gav_at modules n = option_map_or (λ (m : Model). gav_text m.gav) (slice_get modules n) []

abbrev pub pom_at : List Model → ℕ → PomId
pom_at modules n = option_map_or (λ (m : Model). m.pom) (slice_get modules n) (ids.Path [])

-- the coordinates of a circle's modules, and its first again
abbrev pub circle_text : List Model → List ℕ → ℕ → List ℕ
circle_text modules circle first = flat_map (λ n. gav_at modules n ++ codes " -> ") circle ++ gav_at modules first

abbrev pub refused_from : List Model → List ℕ → ℕ → Refusal
refused_from modules circle first =
    record { pom = pom_at modules first; rule = ReactorCycle; place = Name (circle_text modules circle first) }

-- the refusal of a circle, which names its first module
unfoldable pub circle_refused : List Model → List ℕ → Refusal
circle_refused modules circle = refused_from modules circle (get_or circle 0 0)

-- Looking into arrays, against what the library's calls say.
use Rattle.std.proofs.Common.{◌≡◌, ℕ, List, [], ◌∷◌, Option, Some, option_map, option_and_then, sym, ap, ◌∙◌, refl}
use Rattle.serde_json.specs.Data.{Data, Items}
use Rattle.serde_json.specs.View.{items_of, items_view}
use Rattle.serde_json.specs.declared.value.Value.{Value}
use Rattle.goal_program.specs.Members.{items_list, views}
use Rattle.goal_program.specs.Lists.{name_and_count, pair_of}

-- a list of items, as a list again
listed_again : (ds : List Data) → items_list (items_of ds) ≡ ds
listed_again [] = refl
listed_again (d ∷ ds) = ap (λ es. d ∷ es) (listed_again ds)

-- the items of an array that was found
pub items_found : (vs : List Value) (o : Option Items) → Some (items_view vs) ≡ o → Some (views vs) ≡ option_map items_list o
items_found vs o e = ap Some (sym (listed_again (views vs))) ∙ ap (option_map items_list) e

-- a name and what is said of its bytes, of the program's values
pair_views : (vs : List Value) → pair_of vs ≡ name_and_count (views vs)
pair_views [] = refl
pair_views (a ∷ []) = refl
pair_views (a ∷ b ∷ []) = refl
pair_views (a ∷ b ∷ c ∷ more) = refl

pub paired : (vs : List Value) (o : Option Items) (r : Option (List ℕ × Data)) → r ≡ pair_of vs → Some (items_view vs) ≡ o → r ≡ option_and_then name_and_count (option_map items_list o)
paired vs o r is e = is ∙ pair_views vs ∙ ap name_and_count (sym (listed_again (views vs))) ∙ ap (λ q. option_and_then name_and_count (option_map items_list q)) e

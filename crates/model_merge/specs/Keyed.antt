-- Lists whose items are told apart by a key. Own rules of order.
use Rattle.std.specs.Prelude.{Bool, ◌&&◌, List, [], ◌∷◌, ◌++◌, map, fold, filter, find, Option, is_none, if◌then◌else◌}
use Rattle.std.specs.Option.{option_map_or}
use Rattle.std.specs.Str.{bytes_eq}
use Rattle.mvn_base.specs.declared.key.Key.{Key}

abbrev pub same_key : Key → Key → Bool
same_key a b = bytes_eq a.group b.group && (bytes_eq a.artifact b.artifact && (bytes_eq a.kind b.kind && bytes_eq a.classifier b.classifier))

module _ {T : Type 0} (key : T → Key) where
  -- items, each beside its key
  abbrev pub keyed : List T → List (Key × T)
  keyed items = map (λ x. (key x, x)) items

  -- the item of a key, the first that is there
  abbrev pub item_of : List T → Key → Option T
  item_of items k = find (λ x. same_key k (key x)) items

  -- one item more: at the place of the one of its key, or at the end
  abbrev pub put : List T → T → List T
  put [] x = x ∷ []
  put (y ∷ items) x = if same_key (key x) (key y) then x ∷ items else y ∷ put items x

  -- of equal keys in one list the later declaration stands at the earlier one's place
  abbrev pub settled : List T → List T
  settled items = fold put [] items

  -- those whose keys aren't among the first list's
  abbrev pub others : List T → List T → List T
  others items further = filter (λ x. is_none (item_of items (key x))) further

  -- a list, and then the others of a second
  abbrev pub with_others : List T → List T → List T
  with_others first second = settled first ++ others (settled first) (settled second)

  module _ (merge : T → T → T) where
    -- a parent's item, merged with the child's of its key where there is one
    abbrev pub overlaid : List T → T → T
    overlaid child p = option_map_or (λ c. merge c p) (item_of child (key p)) p

    -- a child's item, merged with the parent's of its key where there is one
    abbrev pub underlaid : List T → T → T
    underlaid parent c = option_map_or (λ p. merge c p) (item_of parent (key c)) c

    -- the parent's items in order, each merged with the child's of its key
    abbrev pub merged_over : List T → List T → List T
    merged_over child parent = map (overlaid (settled child)) parent

    -- the child's items in order, each merged with the parent's of its key
    abbrev pub merged_under : List T → List T → List T
    merged_under child parent = map (underlaid (settled parent)) child

    -- the parent's items in order, each merged with the child's of its key, and then the child's others
    abbrev pub merged_lists : List T → List T → List T
    merged_lists child parent = merged_over child (settled parent) ++ others (settled parent) (settled child)

    -- an item more: merged with the one of its key, in its place, or at the end
    abbrev pub absorb : List T → T → List T
    absorb items x = put items (underlaid items x)

    -- a list, and then further items, one by one
    abbrev pub absorbed : List T → List T → List T
    absorbed items further = fold absorb (settled items) further

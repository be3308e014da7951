-- The last token of those gathered.
use Rattle.std.proofs.Common.{◌≡◌, ◌+◌, ◌-◌, ◌<◌, true, false, List, [], ◌∷◌, ◌++◌, map, length, get_or, take, Option, Some, None, sym, ap, ◌∙◌, append-nil, length-append, arith}
use Rattle.std.proofs.Math.Seq.{get_or-append_seam}
use Rattle.std.proofs.lemmas.List.{map-append, take_more}
use Rattle.std.proofs.Math.Seq.{take-length}
use Rattle.std.specs.List.{slice_get}
use Rattle.std.specs.Option.{option_to_list}
use Rattle.std.proofs.lemmas.Option.{get_or_from_slice_get, slice_get_within}
use Rattle.versions.specs.declared.cut.Cut.{Cut}
use Rattle.versions.specs.Tokens.{Token, is_null}
use Rattle.versions.specs.Cuts.{stripped}
use Rattle.versions.proofs.Trims.{stripped-null, stripped-full}

last_is : (cuts rest : List Cut) (last y : Cut) → cuts ≡ rest ++ y ∷ [] → Some last ≡ slice_get cuts (length cuts - 1) → y ≡ last
last_is cuts rest last y e l =
    let count : length cuts - 1 ≡ length rest = omega (arith, ap length e, length-append rest (y ∷ [])) in
    sym (get_or-append_seam rest y [] y) ∙ ap (λ n. get_or (rest ++ y ∷ []) n y) (sym count) ∙ ap (λ xs. get_or xs (length cuts - 1) y) (sym e) ∙ get_or_from_slice_get cuts (length cuts - 1) last y (sym l)

-- a null token at the end goes
pub end_goes : (f : Cut → Token) (cuts rest : List Cut) (popped : Option Cut) (last : Cut) → cuts ≡ rest ++ option_to_list popped → Some last ≡ slice_get cuts (length cuts - 1) → is_null (f last) ≡ true → stripped (map f rest) ≡ stripped (map f cuts)
end_goes f cuts rest None last e l null = ap (λ xs. stripped (map f xs)) (sym (append-nil rest) ∙ sym e)
end_goes f cuts rest (Some y) last e l null =
    sym (stripped-null (map f rest) (f y) (ap (λ x. is_null (f x)) (last_is cuts rest last y e l) ∙ null)) ∙ ap stripped (sym (map-append f rest (y ∷ []))) ∙ ap (λ xs. stripped (map f xs)) (sym e)

front_of : (cuts : List Cut) (last : Cut) → Some last ≡ slice_get cuts (length cuts - 1) → cuts ≡ take (length cuts - 1) cuts ++ last ∷ []
front_of cuts last l =
    let low : length cuts - 1 < length cuts = slice_get_within cuts (length cuts - 1) last (sym l) in
    let all : length cuts - 1 + 1 ≡ length cuts = omega (arith, low) in
    sym (take-length cuts) ∙ sym (ap (λ n. take n cuts) all) ∙ take_more cuts (length cuts - 1) last low
    ∙ ap (λ x. take (length cuts - 1) cuts ++ x ∷ []) (get_or_from_slice_get cuts (length cuts - 1) last last (sym l))

-- any other stays
pub end_stays : (f : Cut → Token) (cuts : List Cut) (last : Cut) → Some last ≡ slice_get cuts (length cuts - 1) → is_null (f last) ≡ false → map f cuts ≡ stripped (map f cuts)
end_stays f cuts last l full =
    let e : map f cuts ≡ map f (take (length cuts - 1) cuts) ++ f last ∷ [] = ap (map f) (front_of cuts last l) ∙ map-append f (take (length cuts - 1) cuts) (last ∷ []) in
    e ∙ sym (ap stripped e ∙ stripped-full (map f (take (length cuts - 1) cuts)) (f last) full)

-- What the replies say of a request, and of what is written.
use Rattle.std.proofs.Common.{◌≡◌, ℕ, Bool, true, false, ◌&&◌, nat_le, List, length, take, Option, Some, None, IfSome, IsSomeAnd, MatchOption, if◌then◌else◌, refl, sym, ap, subst, ◌∙◌, arith}
use Rattle.std.specs.Str.{IsUtf8, is_utf8}
use Rattle.std.specs.Option.{option_map}
use Rattle.std.proofs.lemmas.Str.{IsUtf8-from_is_utf8}
use Rattle.std.proofs.lemmas.Str as text
use Rattle.std.proofs.lemmas.List.{take_all}
use Rattle.mvn_shared.specs.Told.{gains, IsCut}
use Rattle.mvn_shared.proofs.Told.{gains_nothing}
use Rattle.gates.specs.Builtin.{builtin}
use Rattle.goal_types.specs.declared.goal.GoalRequest.{GoalRequest}
use Rattle.goal_types.specs.Answers.{answer_text}
use Rattle.goal_types.specs.Lines.{line_of}
use Rattle.goal_program.specs.Requests.{most_request, request_in, request_from}
use Rattle.goal_program.specs.Answering.{reply_to, reply_from}
use Rattle.goal_program.specs.Running.{Answered, Refused, WritesPart}
use Rattle.goal_program.proofs.Steps.{whole}

-- a request is read only where its line is a text
pub request_is : (bytes : List ℕ) (found : Option GoalRequest) → (IsUtf8 (line_of bytes) → found ≡ request_in bytes) → ((IsUtf8 (line_of bytes) → ⊥) → found ≡ None)
    → found ≡ (if is_utf8 (line_of bytes) then request_in bytes else None)
request_is bytes found is not = by (is_utf8 (line_of bytes)) refl
  where
    by : (b : Bool) → is_utf8 (line_of bytes) ≡ b → found ≡ (if is_utf8 (line_of bytes) then request_in bytes else None)
    by true e = is (IsUtf8-from_is_utf8 (line_of bytes) e) ∙ sym (ap (λ b. if b then request_in bytes else None) e)
    by false e = not (λ u. none (sym (text.is_utf8-from_IsUtf8 (line_of bytes) u) ∙ e)) ∙ sym (ap (λ b. if b then request_in bytes else None) e)
      where
        none : true ≡ false → ⊥
        none e = cc

-- the reply to a request that was read
pub reply_is : (bytes : List ℕ) (found : Option GoalRequest) → (IsUtf8 (line_of bytes) → found ≡ request_in bytes) → ((IsUtf8 (line_of bytes) → ⊥) → found ≡ None)
    → option_map (λ request. answer_text (builtin request)) found ≡ reply_to bytes
unfolding reply_to
reply_is bytes found is not = ap (option_map (λ request. answer_text (builtin request))) (request_is bytes found is not)

-- the reply to a stream that isn't too long is that to its bytes, and to one that is too long there is none
reply_of : (rest : List ℕ) (b : Bool) → nat_le (length rest) most_request ≡ b → reply_from rest ≡ (if b then reply_to rest else None)
unfolding reply_to reply_from
reply_of rest b e = by b (ap (λ c. option_map (λ request. answer_text (builtin request)) (if c && is_utf8 (line_of rest) then request_in rest else None)) e)
  where
    by : (b : Bool) → reply_from rest ≡ option_map (λ request. answer_text (builtin request)) (if b && is_utf8 (line_of rest) then request_in rest else None) → reply_from rest ≡ (if b then reply_to rest else None)
    by true f = f
    by false f = f

pub reply_whole : (rest bytes : List ℕ) → Some bytes ≡ whole rest → reply_to bytes ≡ reply_from rest
reply_whole rest bytes e = by (nat_le (length rest) most_request) refl e
  where
    by : (b : Bool) → nat_le (length rest) most_request ≡ b → Some bytes ≡ (if b then Some rest else None) → reply_to bytes ≡ reply_from rest
    by true t f = ap reply_to (same f) ∙ sym (reply_of rest true t)
      where
        same : Some bytes ≡ Some rest → bytes ≡ rest
        same f = cc
    by false t f = cc

pub reply_long : (rest : List ℕ) → None ≡ whole rest → None ≡ reply_from rest
reply_long rest e = by (nat_le (length rest) most_request) refl e
  where
    by : (b : Bool) → nat_le (length rest) most_request ≡ b → None ≡ (if b then Some rest else None) → None ≡ reply_from rest
    by true t f = cc
    by false t f = sym (reply_of rest false t)

-- the same where the stream tells its bytes
pub replied : (o : Option (List ℕ)) (bytes : List ℕ) (reply : Option (List ℕ)) → IfSome o (λ rest. Some bytes ≡ whole rest) → reply ≡ reply_to bytes → IfSome o (λ rest. reply ≡ reply_from rest)
replied None bytes reply e f = tt
replied (Some rest) bytes reply e f = f ∙ reply_whole rest bytes e

pub unreplied : (o : Option (List ℕ)) → IfSome o (λ rest. None ≡ whole rest) → IfSome o (λ rest. None ≡ reply_from rest)
unreplied None e = tt
unreplied (Some rest) e = reply_long rest e

-- all of a reply was written
pub answered : (o : Option (List ℕ)) (bytes : List ℕ) (before now : Option (List ℕ)) → IfSome o (λ rest. Some bytes ≡ reply_from rest) → now ≡ gains before bytes → IfSome o (λ rest. Answered rest before now)
unfolding reply_from
answered None bytes before now e w = tt
answered (Some rest) bytes before now e w = by (request_from rest) e
  where
    by : (q : Option GoalRequest) → Some bytes ≡ option_map (λ request. answer_text (builtin request)) q → IsSomeAnd q (λ request. now ≡ gains before (answer_text (builtin request)))
    by None f = cc
    by (Some request) f = w ∙ ap (gains before) (same f)
      where
        same : Some bytes ≡ Some (answer_text (builtin request)) → bytes ≡ answer_text (builtin request)
        same f = cc

-- no reply, no request
pub refused : (o : Option (List ℕ)) → IfSome o (λ rest. None ≡ reply_from rest) → IfSome o (λ rest. Refused rest)
unfolding reply_from
refused None e = tt
refused (Some rest) e = by (request_from rest) e
  where
    by : (q : Option GoalRequest) → None ≡ option_map (λ request. answer_text (builtin request)) q → q ≡ None
    by None f = refl
    by (Some request) f = cc

-- a part of a reply was written
pub part_cut : (o : Option (List ℕ)) (bytes : List ℕ) (before now : Option (List ℕ)) → IfSome o (λ rest. Some bytes ≡ reply_from rest) → IsCut bytes before now → IfSome o (λ rest. WritesPart rest before now)
unfolding reply_from
part_cut None bytes before now e w = tt
part_cut (Some rest) bytes before now e w = by (request_from rest) e
  where
    by : (q : Option GoalRequest) → Some bytes ≡ option_map (λ request. answer_text (builtin request)) q → MatchOption q (now ≡ before) (λ request. IsCut (answer_text (builtin request)) before now)
    by None f = cc
    by (Some request) f = (w.0, w.1 ∙ ap (λ b. gains before (take w.0 b)) (same f))
      where
        same : Some bytes ≡ Some (answer_text (builtin request)) → bytes ≡ answer_text (builtin request)
        same f = cc

-- the same of a text that is the reply
pub part_cut_as : (o : Option (List ℕ)) (bytes text : List ℕ) (before now : Option (List ℕ)) → text ≡ bytes → IfSome o (λ rest. Some bytes ≡ reply_from rest) → IsCut text before now → IfSome o (λ rest. WritesPart rest before now)
part_cut_as o bytes text before now same said w = part_cut o bytes before now said (subst (λ b. IsCut b before now) same w)

pub part_all : (o : Option (List ℕ)) (bytes : List ℕ) (before now : Option (List ℕ)) → IfSome o (λ rest. Some bytes ≡ reply_from rest) → now ≡ gains before bytes → IfSome o (λ rest. WritesPart rest before now)
part_all o bytes before now e w = part_cut o bytes before now e (length bytes, w ∙ ap (gains before) (sym (take_all (length bytes) bytes (omega arith))))

-- nothing was written
pub part_none : (o : Option (List ℕ)) (before now : Option (List ℕ)) → now ≡ before → IfSome o (λ rest. WritesPart rest before now)
part_none None before now e = tt
part_none (Some rest) before now e = by (request_from rest)
  where
    by : (q : Option GoalRequest) → MatchOption q (now ≡ before) (λ request. IsCut (answer_text (builtin request)) before now)
    by None = e
    by (Some request) = (0, e ∙ sym (gains_nothing before))

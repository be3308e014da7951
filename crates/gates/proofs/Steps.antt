-- What the steps of asking a child do to what is told of it.
use Rattle.std.proofs.Common.{◌≡◌, ℕ, ◌+◌, ◌-◌, ◌<◌, ◌≤◌, min, ℤ, Bool, true, false, nat_le, List, [], ◌∷◌, ◌++◌, length, length-take, take, drop, Option, Some, None, IfSome, Result, Ok, Err, if◌then◌else◌, inl, inr, refl, sym, ap, subst, ◌∙◌, arith, append_assoc, append-nil, add_assoc, add-zero, IfOk, OnErr}
use Rattle.std.proofs.Math.Seq.{take-add, drop-drop}
use Rattle.std.proofs.lemmas.List.{take_all}
use Rattle.std.proofs.lemmas.Bool.Decides.{nat_tests}
use Rattle.std.specs.Option.{option_map}
use Rattle.mvn_outside.specs.declared.fault.DeviceFault.{DeviceFault}
use Rattle.goal_types.specs.declared.goal.GoalAnswer.{GoalAnswer}
use Rattle.goal_types.specs.declared.goal.GoalRequest.{GoalRequest}
use Rattle.goal_types.specs.Requests.{request_text}
use Rattle.children.specs.declared.spawner.ChildRecord.{ChildRecord}
use Rattle.children.specs.Children.{Children, is_there, with_child, without_child, Starts, fresh_child, given_more, input_closed, read_on, unread, changed, record_of}
use Rattle.children.proofs.Children.{gone_again, started_there, change_last, get_last, changed_twice, changed_none, record_changed}
use Rattle.gates.specs.Answering.{child_answer, most_answer}
use Rattle.gates.proofs.Statuses.{long_answer}
use Rattle.gates.specs.Asking.{Touches, handed, ReadsMore, Exchanges, Asked, Answers, Asks, most_taken}

abbrev Told : Type 0
Told = Option (List ChildRecord)

given_twice : (a b : List ℕ) (x : ChildRecord) → given_more b (given_more a x) ≡ given_more (a ++ b) x
given_twice a b x = ap (λ g. record x { given = g }) (append_assoc x.given a b)

-- before anything is given, nothing is
pub give_nothing : (told : Told) (child : ℕ) → told ≡ changed (given_more []) child told
give_nothing told child = sym (changed_none (given_more []) (λ x. ap (λ g. record x { given = g }) (append-nil x.given)) child told)

-- a further part behind what was given
pub give_step : (told one two : Told) (child done count : ℕ) (bytes : List ℕ) → one ≡ changed (given_more (take done bytes)) child told → two ≡ changed (given_more (take count (drop done bytes))) child one
    → two ≡ changed (given_more (take (done + count) bytes)) child told
give_step told one two child done count bytes first next =
    next ∙ ap (changed (given_more (take count (drop done bytes))) child) first
    ∙ changed_twice _ _ (given_more (take done bytes ++ take count (drop done bytes))) (given_twice (take done bytes) (take count (drop done bytes))) child told
    ∙ ap (λ b. changed (given_more b) child told) (sym (take-add done count bytes))

-- given all, and its input closed
pub hand_step : (told one two : Told) (child : ℕ) (bytes : List ℕ) → one ≡ changed (given_more bytes) child told → two ≡ changed input_closed child one → two ≡ changed (handed bytes) child told
hand_step told one two child bytes first next = next ∙ ap (changed input_closed child) first ∙ changed_twice (given_more bytes) input_closed (handed bytes) (λ x. refl) child told

-- a change touches one record, also after another change of it
pub touched : (told one : Told) (child : ℕ) (f : ChildRecord → ChildRecord) → one ≡ changed f child told → Touches child told one
touched told one child f e = (f, e)

pub touched_self : (told one : Told) (child : ℕ) → one ≡ told → Touches child told one
touched_self told one child e = (λ x. x, e ∙ sym (changed_none (λ x. x) (λ x. refl) child told))

pub touched_twice : (told one two : Told) (child : ℕ) → Touches child told one → Touches child one two → Touches child told two
touched_twice told one two child a b = (λ x. b.0 (a.0 x), b.1 ∙ ap (changed b.0 child) a.1 ∙ changed_twice a.0 b.0 (λ x. b.0 (a.0 x)) (λ x. refl) child told)

-- what was changed and then stayed is touched
pub touched_still : (told one two : Told) (child : ℕ) (f : ChildRecord → ChildRecord) → one ≡ changed f child told → two ≡ one → Touches child told two
touched_still told one two child f first same = (f, same ∙ first)

-- what was changed and then touched is touched
pub touched_then : (told one two : Told) (child : ℕ) (f : ChildRecord → ChildRecord) → one ≡ changed f child told → Touches child one two → Touches child told two
touched_then told one two child f first t = touched_twice told one two child (f, first) t

-- what was touched and then stayed is touched
pub touched_same : (told one two : Told) (child : ℕ) → Touches child told one → two ≡ one → Touches child told two
touched_same told one two child t same = (t.0, same ∙ t.1)

read_twice : (a b : ℕ) (x : ChildRecord) → read_on b (read_on a x) ≡ read_on (a + b) x
read_twice a b x = ap (λ n. record x { taken = n }) (add_assoc x.taken a b)

read_none : (x : ChildRecord) → read_on 0 x ≡ x
read_none x = ap (λ n. record x { taken = n }) (add-zero x.taken)

-- where the output was read so far
pub record ReadSoFar (told now : Told) (child : ℕ) (bytes : List ℕ) : Type 0 where
  pub told_now : now ≡ changed (read_on (length bytes)) child told
  pub so_far : IfSome (record_of child told) (λ known. bytes ≡ take (length bytes) (unread known))

-- before anything is read, nothing is
pub read_nothing : (told : Told) (child : ℕ) → ReadSoFar told told child []
read_nothing told child = record {
  told_now = sym (changed_none (read_on 0) read_none child told);
  so_far = any (record_of child told);
}
  where
    any : (o : Option ChildRecord) → IfSome o (λ known. [] ≡ take 0 (unread known))
    any None = tt
    any (Some known) = refl

more_read : (n count : ℕ) (old new : List ℕ) (o p : Option ChildRecord) → p ≡ option_map (read_on n) o → IfSome o (λ known. old ≡ take n (unread known)) → IfSome p (λ known. new ≡ old ++ take count (unread known))
    → IfSome o (λ known. new ≡ take (n + count) (unread known))
more_read n count old new None p e f g = tt
more_read n count old new (Some known) p e f g =
    let here : new ≡ old ++ take count (unread (read_on n known)) = subst (λ q. IfSome q (λ k. new ≡ old ++ take count (unread k))) e g in
    here ∙ ap (λ xs. xs ++ take count (unread (read_on n known))) f ∙ ap (λ u. take n (unread known) ++ take count u) (sym (drop-drop n known.taken known.output)) ∙ sym (take-add n count (unread known))

-- one read more
pub read_step : (told one two : Told) (child room : ℕ) (old new : List ℕ) (more : Bool) → ReadSoFar told one child old → ReadsMore child one two room old new more → ReadSoFar told two child new
read_step told one two child room old new more s r =
    let n = length old in
    record {
      told_now = r.told ∙ ap (changed (read_on r.count) child) s.told_now ∙ changed_twice (read_on n) (read_on r.count) (read_on (n + r.count)) (read_twice n r.count) child told ∙ ap (λ m. changed (read_on m) child told) (sym r.len);
      so_far = subst (λ m. IfSome (record_of child told) (λ known. new ≡ take m (unread known))) (sym r.len) (more_read n r.count old new (record_of child told) (record_of child one) (ap (record_of child) s.told_now ∙ record_changed (read_on n) child told) s.so_far r.bytes);
    }

-- at the end of the output, and where it is too long, what was read is its front
all_read : (n : ℕ) (bytes rest : List ℕ) → n ≤ most_taken → bytes ≡ take n rest → drop n rest ≡ [] → bytes ≡ take most_taken rest
all_read n bytes rest low so empty =
    let d : ℕ = most_taken - n in
    let whole : n + (most_taken - n) ≡ most_taken = omega (arith, low) in
    so ∙ sym (append-nil (take n rest)) ∙ ap (λ xs. take n rest ++ xs) (sym (nothing_of d) ∙ ap (take d) (sym empty)) ∙ sym (take-add n d rest) ∙ ap (λ m. take m rest) whole
  where
    nothing_of : (d : ℕ) → take {A = ℕ} d [] ≡ []
    nothing_of d = take_all d [] (omega arith)

pub read_to_end : (told one two : Told) (child room : ℕ) (old new : List ℕ) (ended : Bool) → length new ≤ most_taken → ReadSoFar told one child old → ReadsMore child one two room old new ended → ended ≡ true
    → IfSome (record_of child told) (λ known. new ≡ take most_taken (unread known))
read_to_end told one two child room old new ended low s r end =
    by (record_of child told) (record_of child two) (ap (record_of child) now.told_now ∙ record_changed (read_on (length new)) child told) now.so_far none_left
  where
    now : ReadSoFar told two child new
    now = read_step told one two child room old new ended s r

    by : (o p : Option ChildRecord) → p ≡ option_map (read_on (length new)) o → IfSome o (λ known. new ≡ take (length new) (unread known)) → IfSome p (λ known. unread known ≡ []) → IfSome o (λ known. new ≡ take most_taken (unread known))
    by None p e f g = tt
    by (Some known) p e f g =
        let empty : unread (read_on (length new) known) ≡ [] = subst (λ q. IfSome q (λ k. unread k ≡ [])) e g in
        all_read (length new) new (unread known) low f (drop-drop (length new) known.taken known.output ∙ empty)

    none : (o p : Option ChildRecord) → p ≡ option_map (read_on r.count) o → r.count ≡ 0 → IfSome o (λ known. unread known ≡ []) → IfSome p (λ known. unread known ≡ [])
    none None p e zero_count g = subst (λ q. IfSome q (λ k. unread k ≡ [])) (sym e) tt
    none (Some known) p e zero_count g = subst (λ q. IfSome q (λ k. unread k ≡ [])) (sym (e ∙ ap (λ c. Some (read_on c known)) zero_count ∙ ap Some (read_none known))) g

    none_left : IfSome (record_of child two) (λ known. unread known ≡ [])
    none_left = none (record_of child one) (record_of child two) (ap (record_of child) r.told ∙ record_changed (read_on r.count) child one) (r.none end) (r.last end)

-- an output that was read as far as an answer may go
pub read_enough : (told one : Told) (child : ℕ) (bytes : List ℕ) → ReadSoFar told one child bytes → length bytes ≡ most_taken → IfSome (record_of child told) (λ known. bytes ≡ take most_taken (unread known))
read_enough told one child bytes s full = subst (λ m. IfSome (record_of child told) (λ known. bytes ≡ take m (unread known))) full s.so_far

-- a child that was given bytes has its output as before
pub exchanged : (told one two : Told) (child : ℕ) (bytes output : List ℕ) → one ≡ changed (handed bytes) child told → two ≡ changed (read_on (length output)) child one → IfSome (record_of child one) (λ known. output ≡ take most_taken (unread known))
    → Exchanges child told two bytes output
exchanged told one two child bytes output first next read = record {
  told = next ∙ ap (changed (read_on (length output)) child) first ∙ changed_twice (handed bytes) (read_on (length output)) _ (λ x. refl) child told;
  read = by (record_of child told) (record_of child one) (ap (record_of child) first ∙ record_changed (handed bytes) child told) read;
}
  where
    by : (o p : Option ChildRecord) → p ≡ option_map (handed bytes) o → IfSome p (λ known. output ≡ take most_taken (unread known)) → IfSome o (λ known. output ≡ take most_taken (unread known))
    by None p e g = tt
    by (Some known) p e g = subst (λ q. IfSome q (λ k. output ≡ take most_taken (unread k))) e g

-- an output that was cut behind the longest answer answers the same
pub cut_answers : (output : List ℕ) (status : ℤ) → child_answer (take most_taken output) status ≡ child_answer output status
cut_answers output status = by (nat_le (length output) most_taken) refl
  where
    by : (b : Bool) → nat_le (length output) most_taken ≡ b → child_answer (take most_taken output) status ≡ child_answer output status
    by true e = ap (λ o. child_answer o status) (take_all most_taken output (grind (arith, nat_tests, e)))
    by false e =
        let cut : most_answer < length (take most_taken output) = grind (arith, nat_tests, e, length-take most_taken output) in
        long_answer (take most_taken output) status cut ∙ sym (long_answer output status (grind (arith, nat_tests, e)))

-- asked: what was exchanged, and what the end answered
pub asked : (told two : Told) (child : ℕ) (bytes output : List ℕ) (said : GoalAnswer) → Exchanges child told two bytes output → IfSome (record_of child two) (λ known. said ≡ child_answer output known.status) → Asked child told two bytes said
asked told two child bytes output said x answer = record {
  count = length output;
  told = x.told;
  all = all (record_of child told) x.read;
  answer = by (record_of child told) (record_of child two) (ap (record_of child) x.told ∙ record_changed _ child told) x.read answer;
}
  where
    all : (o : Option ChildRecord) → IfSome o (λ known. output ≡ take most_taken (unread known)) → IfSome o (λ known. known.taken ≡ 0 → length output ≡ min most_taken (length known.output))
    all None f = tt
    all (Some known) f = λ none. ap length (f ∙ ap (λ n. take most_taken (drop n known.output)) none) ∙ length-take most_taken known.output

    by : (o p : Option ChildRecord) → p ≡ option_map (λ known. read_on (length output) (handed bytes known)) o → IfSome o (λ known. output ≡ take most_taken (unread known)) → IfSome p (λ known. said ≡ child_answer output known.status)
        → IfSome o (λ known. known.taken ≡ 0 → said ≡ child_answer known.output known.status)
    by None p e f g = tt
    by (Some known) p e f g = λ none.
        let here : said ≡ child_answer output known.status = subst (λ q. IfSome q (λ k. said ≡ child_answer output k.status)) e g in
        here ∙ ap (λ o. child_answer o known.status) (f ∙ ap (λ n. take most_taken (drop n known.output)) none) ∙ cut_answers known.output known.status

-- a start and an asked child are a call of the gate
pub asks_ok : (told one two : Told) (child : ℕ) (request : GoalRequest) (said : GoalAnswer) → Starts told one → IfSome told (λ records. child ≡ length records) → Asked child one two (request_text request) said → Asks told two request (Ok said)
asks_ok None one two child request said start place a = a.told ∙ ap (changed _ child) start
asks_ok (Some records) one two child request said start place a =
    let fresh = fresh_child start.0 start.1 in
    let here : record_of child one ≡ Some fresh = ap (record_of child) start.2 ∙ ap (λ n. record_of n (Some (records ++ fresh ∷ []))) place ∙ get_last records fresh in
    let told : two ≡ Some (records ++ read_on a.count (handed (request_text request) fresh) ∷ []) =
    a.told ∙ ap (changed _ child) start.2 ∙ ap (λ n. changed (λ known. read_on a.count (handed (request_text request) known)) n (Some (records ++ fresh ∷ []))) place ∙ ap Some (change_last _ records fresh) in
    let all = subst (λ o. IfSome o (λ known. known.taken ≡ 0 → a.count ≡ min most_taken (length known.output))) here a.all in
    let answer = subst (λ o. IfSome o (λ known. known.taken ≡ 0 → said ≡ child_answer known.output known.status)) here a.answer in
    let whole : 0 + a.count ≡ a.count = omega arith in
    (read_on a.count (handed (request_text request) fresh), told, record { given = refl; closed = refl; taken = whole ∙ all refl; answer = answer refl })

-- after a fault of an asked child there is one record more
pub asks_err : (told one two : Told) (child : ℕ) (request : GoalRequest) (fault : DeviceFault) → Starts told one → IfSome told (λ records. child ≡ length records) → Touches child one two → Asks told two request (Err fault)
asks_err None one two child request fault start place t = t.1 ∙ ap (changed t.0 child) start
asks_err (Some records) one two child request fault start place t =
    let fresh = fresh_child start.0 start.1 in
    inr (t.0 fresh, t.1 ∙ ap (changed t.0 child) start.2 ∙ ap (λ n. changed t.0 n (Some (records ++ fresh ∷ []))) place ∙ ap Some (change_last t.0 records fresh))

-- where nothing was started, nothing has changed
pub asks_none : (told now : Told) (request : GoalRequest) (fault : DeviceFault) → now ≡ told → Asks told now request (Err fault)
asks_none None now request fault e = e
asks_none (Some records) now request fault e = inl e

-- a start, and what came of asking the child
pub asks_of : (told one two : Told) (child : ℕ) (request : GoalRequest) (result : Result GoalAnswer DeviceFault) → Starts told one → IfSome told (λ records. child ≡ length records)
    → IfOk result (λ said. Asked child one two (request_text request) said) → OnErr result (Touches child one two) → Asks told two request result
asks_of told one two child request (Ok said) start place ok err = asks_ok told one two child request said start place ok
asks_of told one two child request (Err fault) start place ok err = asks_err told one two child request fault start place err

-- a child that was started is there, and what it left when it had gone
pub there_started : (before now : Children) (child : ℕ) → now ≡ with_child before child → is_there now child ≡ true
there_started before now child e = ap (λ s. is_there s child) e ∙ started_there before child

pub left_as_before : (before one two : Children) (child : ℕ) → is_there before child ≡ false → one ≡ with_child before child → two ≡ without_child one child → two ≡ before
left_as_before before one two child fresh start gone = gone ∙ ap (λ s. without_child s child) start ∙ gone_again before child fresh

-- what holds anyway holds after a fault
pub on_err : {T E : Type 0} (P : Type 0) (r : Result T E) → P → OnErr r P
on_err P (Ok x) p = tt
on_err P (Err e) p = p

-- Where one comes to with one edge more.
use Rattle.std.proofs.Common.{◌≡◌, ◌⊎◌, ◌↔◌, inl, inr, ℕ, ◌<◌, Bool, true, false, not, ◌==◌, ◌||◌, ◌&&◌, List, [], ◌∷◌, ◌++◌, get_or, if◌then◌else◌, append-nil, refl, sym, ap, subst, ◌∙◌, arith}
use Rattle.std.proofs.lemmas.Bool.{false≢true}
use Rattle.std.proofs.lemmas.Bool.Decides.{nat_tests}
use Rattle.reactor_order.specs.Graph.{Edges, has, upstreams, Leads, here, onward}
use Rattle.reactor_order.specs.Rows.{is_in, IsReachability}
use Rattle.reactor_order.proofs.Adjacency.{upstreams_push}
use Rattle.reactor_order.proofs.Marking.{has_append}
use Rattle.reactor_order.proofs.Reaching.{one_of, first_or, second_or}

-- two ways, one behind the other
pub behind : {next : ℕ → List ℕ} {a b c : ℕ} → Leads next a b → Leads next b c → Leads next a c
behind (here a) q = q
behind (onward a d b step rest) q = onward a d _ step (behind rest q)

-- what stands next with one edge more
has_more : (edges : Edges) (m u a c : ℕ) → has (upstreams (edges ++ (m, u) ∷ []) a) c ≡ (has (upstreams edges a) c || ((m == a) && (u == c)))
has_more edges m u a c =
    ap (λ us. has us c) (upstreams_push edges m u a) ∙ has_append (upstreams edges a) (if m == a then u ∷ [] else []) c ∙ ap (λ b. has (upstreams edges a) c || b) (by (m == a) refl)
  where
    by : (t : Bool) → (m == a) ≡ t → has (if m == a then u ∷ [] else []) c ≡ ((m == a) && (u == c))
    by true e = rw e (or_false (u == c))
      where
        or_false : (b : Bool) → (b || false) ≡ b
        or_false true = refl
        or_false false = refl
    by false e = rw e refl

-- one comes there over the edges, or to the edge's module and then from its upstream
abbrev pub LeadsBy : Edges → ℕ → ℕ → ℕ → ℕ → Type 0
LeadsBy edges m u a b = Leads (upstreams edges) a b ⊎ (Leads (upstreams edges) a m × Leads (upstreams edges) u b)

step_by : (edges : Edges) (m u a c b : ℕ) → (has (upstreams edges a) c ≡ true) ⊎ (((m == a) && (u == c)) ≡ true) → LeadsBy edges m u c b → LeadsBy edges m u a b
step_by edges m u a c b (inl old) (inl way) = inl (onward a c b old way)
step_by edges m u a c b (inl old) (inr (to, from)) = inr (onward a c m old to, from)
step_by edges m u a c b (inr new) way = by way
  where
    at_m : m ≡ a
    at_m = grind (arith, nat_tests, new)

    at_u : u ≡ c
    at_u = grind (arith, nat_tests, new)

    to_m : Leads (upstreams edges) a m
    to_m = subst (λ k. Leads (upstreams edges) a k) (sym at_m) (here a)

    by : LeadsBy edges m u c b → LeadsBy edges m u a b
    by (inl way) = inr (to_m, subst (λ k. Leads (upstreams edges) k b) (sym at_u) way)
    by (inr (to, from)) = inr (to_m, from)

pub leads_by : (edges : Edges) (m u : ℕ) {a b : ℕ} → Leads (upstreams (edges ++ (m, u) ∷ [])) a b → LeadsBy edges m u a b
leads_by edges m u (here a) = inl (here a)
leads_by edges m u (onward a c b step rest) =
    step_by edges m u a c b (one_of (has (upstreams edges a) c) ((m == a) && (u == c)) (sym (has_more edges m u a c) ∙ step)) (leads_by edges m u rest)

-- with one edge more one comes where one came
pub leads_still : (edges : Edges) (m u : ℕ) {a b : ℕ} → Leads (upstreams edges) a b → Leads (upstreams (edges ++ (m, u) ∷ [])) a b
leads_still edges m u (here a) = here a
leads_still edges m u (onward a c b step rest) =
    onward a c b (has_more edges m u a c ∙ first_or (has (upstreams edges a) c) ((m == a) && (u == c)) step) (leads_still edges m u rest)

edge_leads : (edges : Edges) (m u : ℕ) → Leads (upstreams (edges ++ (m, u) ∷ [])) m u
edge_leads edges m u = onward m u u (has_more edges m u m u ∙ second_or (has (upstreams edges m) u) ((m == m) && (u == u)) (grind (arith, nat_tests))) (here u)

pub led_by : (edges : Edges) (m u a b : ℕ) → LeadsBy edges m u a b → Leads (upstreams (edges ++ (m, u) ∷ [])) a b
led_by edges m u a b (inl way) = leads_still edges m u way
led_by edges m u a b (inr (to, from)) = behind (leads_still edges m u to) (behind (edge_leads edges m u) (leads_still edges m u from))

-- a module of which one comes to `m` and not to `u`, and one to which one comes from `u` and not from `m`
both_true : (a b : Bool) → a ≡ true → b ≡ true → (a && b) ≡ true
both_true a b ea eb = rw ea (rw eb refl)

first_true : (a b : Bool) → (a && b) ≡ true → a ≡ true
first_true true b e = refl
first_true false b e = e

second_true : (a b : Bool) → (a && b) ≡ true → b ≡ true
second_true true b e = e
second_true false b e = absurd (false≢true e)

-- a bit more says that one comes there
says_more : (old low up notlow notup now : Bool) (L LM UB LU MB : Type 0)
    → now ≡ (old || ((low && not notlow) && (up && not notup)))
    → (old ≡ true) ↔ L → (low ≡ true) ↔ LM → (up ≡ true) ↔ UB → (notlow ≡ true → L ⊎ (UB → L)) → (notup ≡ true → L ⊎ (LM → L))
    → (now ≡ true) ↔ (L ⊎ (LM × UB))
says_more old low up notlow notup now L LM UB LU MB is eo el eu nl nu = (there, back)
  where
    there : now ≡ true → L ⊎ (LM × UB)
    there e = by (one_of old ((low && not notlow) && (up && not notup)) (sym is ∙ e))
      where
        by : (old ≡ true) ⊎ (((low && not notlow) && (up && not notup)) ≡ true) → L ⊎ (LM × UB)
        by (inl o) = inl (eo.0 o)
        by (inr new) =
            let one = first_true (low && not notlow) (up && not notup) new in
            let two = second_true (low && not notlow) (up && not notup) new in
            inr (el.0 (first_true low (not notlow) one), eu.0 (first_true up (not notup) two))

    old_way : L → now ≡ true
    old_way way = is ∙ first_or old ((low && not notlow) && (up && not notup)) (eo.1 way)

    back : L ⊎ (LM × UB) → now ≡ true
    back (inl way) = old_way way
    back (inr (to, from)) = by notlow notup refl refl
      where
        given_low : L ⊎ (UB → L) → now ≡ true
        given_low (inl way) = old_way way
        given_low (inr on) = old_way (on from)

        given_up : L ⊎ (LM → L) → now ≡ true
        given_up (inl way) = old_way way
        given_up (inr on) = old_way (on to)

        by : (x y : Bool) → notlow ≡ x → notup ≡ y → now ≡ true
        by true y ex ey = given_low (nl ex)
        by false true ex ey = given_up (nu ey)
        by false false ex ey =
            is ∙ second_or old ((low && not notlow) && (up && not notup))
            (both_true (low && not notlow) (up && not notup) (both_true low (not notlow) (el.1 to) (ap not ex)) (both_true up (not notup) (eu.1 from) (ap not ey)))

-- the rows with one edge more, where its module and its upstream have these bits more
pub extended : (n m u : ℕ) (edges : Edges) (ups downs ups_now downs_now : List (List ℕ)) (below above : List ℕ) → m < n → u < n
    → IsReachability n edges ups downs
    → ((j : ℕ) → is_in above j ≡ (is_in (get_or ups u []) j && not (is_in (get_or ups m []) j)))
    → ((j : ℕ) → is_in below j ≡ (is_in (get_or downs m []) j && not (is_in (get_or downs u []) j)))
    → ((a b : ℕ) → a < n → is_in (get_or ups_now a []) b ≡ (is_in (get_or ups a []) b || (is_in below a && is_in above b)))
    → ((b a : ℕ) → b < n → is_in (get_or downs_now b []) a ≡ (is_in (get_or downs b []) a || (is_in above b && is_in below a)))
    → IsReachability n (edges ++ (m, u) ∷ []) ups_now downs_now
extended n m u edges ups downs ups_now downs_now below above lm lu was is_above is_below up_now down_now = record { up = up; down = down }
  where
    L : ℕ → ℕ → Type 0
    L a b = Leads (upstreams edges) a b

    whole : (a b : ℕ) → (now : Bool) → (now ≡ true) ↔ (L a b ⊎ (L a m × L u b)) → (now ≡ true) ↔ Leads (upstreams (edges ++ (m, u) ∷ [])) a b
    whole a b now e = (λ is. led_by edges m u a b (e.0 is), λ way. e.1 (leads_by edges m u way))

    up : (a b : ℕ) → a < n → b < n → (is_in (get_or ups_now a []) b ≡ true) ↔ Leads (upstreams (edges ++ (m, u) ∷ [])) a b
    up a b la lb = whole a b (is_in (get_or ups_now a []) b)
        (says_more (is_in (get_or ups a []) b) (is_in (get_or downs m []) a) (is_in (get_or ups u []) b) (is_in (get_or downs u []) a) (is_in (get_or ups m []) b) (is_in (get_or ups_now a []) b)
        (L a b) (L a m) (L u b) (L a u) (L m b)
        (up_now a b la ∙ ap (λ x. is_in (get_or ups a []) b || (x && is_in above b)) (is_below a) ∙ ap (λ x. is_in (get_or ups a []) b || ((is_in (get_or downs m []) a && not (is_in (get_or downs u []) a)) && x)) (is_above b))
        (was.up a b la lb) (was.down a m la lm) (was.up u b lu lb)
        (λ e. inr (λ from. behind ((was.down a u la lu).0 e) from))
        (λ e. inr (λ to. behind to ((was.up m b lm lb).0 e))))

    down : (a b : ℕ) → a < n → b < n → (is_in (get_or downs_now b []) a ≡ true) ↔ Leads (upstreams (edges ++ (m, u) ∷ [])) a b
    down a b la lb = whole a b (is_in (get_or downs_now b []) a)
        (says_more (is_in (get_or downs b []) a) (is_in (get_or downs m []) a) (is_in (get_or ups u []) b) (is_in (get_or downs u []) a) (is_in (get_or ups m []) b) (is_in (get_or downs_now b []) a)
        (L a b) (L a m) (L u b) (L a u) (L m b)
        (down_now b a lb ∙ ap (λ x. is_in (get_or downs b []) a || (x && is_in below a)) (is_above b) ∙ ap (λ x. is_in (get_or downs b []) a || ((is_in (get_or ups u []) b && not (is_in (get_or ups m []) b)) && x)) (is_below a)
        ∙ ap (λ x. is_in (get_or downs b []) a || x) (swap (is_in (get_or ups u []) b && not (is_in (get_or ups m []) b)) (is_in (get_or downs m []) a && not (is_in (get_or downs u []) a))))
        (was.down a b la lb) (was.down a m la lm) (was.up u b lu lb)
        (λ e. inr (λ from. behind ((was.down a u la lu).0 e) from))
        (λ e. inr (λ to. behind to ((was.up m b lm lb).0 e))))
      where
        swap : (x y : Bool) → (x && y) ≡ (y && x)
        swap true true = refl
        swap true false = refl
        swap false true = refl
        swap false false = refl

-- where one comes from the module to the upstream already, the rows stay
pub extended_same : (n m u : ℕ) (edges : Edges) (ups downs : List (List ℕ)) → IsReachability n edges ups downs → Leads (upstreams edges) m u → IsReachability n (edges ++ (m, u) ∷ []) ups downs
extended_same n m u edges ups downs was known = record {
  up = λ a b la lb. (λ e. leads_still edges m u ((was.up a b la lb).0 e), λ way. (was.up a b la lb).1 (shorter a b (leads_by edges m u way)));
  down = λ a b la lb. (λ e. leads_still edges m u ((was.down a b la lb).0 e), λ way. (was.down a b la lb).1 (shorter a b (leads_by edges m u way)));
}
  where
    shorter : (a b : ℕ) → LeadsBy edges m u a b → Leads (upstreams edges) a b
    shorter a b (inl way) = way
    shorter a b (inr (to, from)) = behind to (behind known from)

-- without edges one comes to oneself alone
nowhere : {a b : ℕ} → Leads (upstreams []) a b → a ≡ b
nowhere (here a) = refl
nowhere (onward a c b step rest) = absurd (false≢true step)

pub begun : (n : ℕ) (ups downs : List (List ℕ)) → ((a b : ℕ) → a < n → is_in (get_or ups a []) b ≡ (a == b)) → ((a b : ℕ) → a < n → is_in (get_or downs a []) b ≡ (a == b)) → IsReachability n [] ups downs
begun n ups downs up down = record {
  up = λ a b la lb. (λ e. to a b (sym (up a b la) ∙ e), λ way. up a b la ∙ from a b (nowhere way));
  down = λ a b la lb. (λ e. subst (λ k. Leads (upstreams []) k b) (same b a (sym (down b a lb) ∙ e)) (here b), λ way. down b a lb ∙ from b a (sym (nowhere way)));
}
  where
    same : (a b : ℕ) → (a == b) ≡ true → a ≡ b
    same a b e = grind (arith, nat_tests, e)

    to : (a b : ℕ) → (a == b) ≡ true → Leads (upstreams []) a b
    to a b e = subst (λ k. Leads (upstreams []) a k) (same a b e) (here a)

    from : (a b : ℕ) → a ≡ b → (a == b) ≡ true
    from a b e = grind (arith, nat_tests, e)

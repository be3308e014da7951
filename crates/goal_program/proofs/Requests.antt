-- The bytes that are written for a request are read as that request.
use Rattle.std.proofs.Common.{◌≡◌, ℕ, ◌<◌, ◌≤◌, ◌^◌, ◌==◌, List, [], ◌∷◌, ◌++◌, length, length-append, map, flat_map, codes, Option, Some, None, option_map, option_and_then, if◌then◌else◌, refl, sym, ap, ◌∙◌, append_assoc, append-nil, arith}
use Rattle.serde_json.specs.Data.{depth, items_depth}
use Rattle.serde_json.specs.Read.{read, max_depth}
use Rattle.serde_json.specs.View.{items_of}
use Rattle.serde_json.specs.Written.{compact_text}
use Rattle.mvn_base.specs.declared.phase.Phase.{Phase}
use Rattle.mvn_base.specs.declared.phase.Phase.TheVariants.{Validate, Initialize, GenerateSources, ProcessSources, GenerateResources, ProcessResources, Compile, ProcessClasses, GenerateTestSources, ProcessTestSources, GenerateTestResources, ProcessTestResources, TestCompile, ProcessTestClasses, Test, PreparePackage, Package, PreIntegrationTest, IntegrationTest, PostIntegrationTest, Verify, Install, Deploy}
use Rattle.mvn_base.specs.Phase.{phase_name, phase_of}
use Rattle.goal_types.specs.declared.goal.GoalCall.{GoalCall}
use Rattle.goal_types.specs.declared.goal.GoalRequest.{GoalRequest}
use Rattle.goal_types.specs.declared.goal.Need.{Need}
use Rattle.goal_types.specs.declared.goal.OwnBytes.{OwnBytes}
use Rattle.goal_types.specs.declared.goal.PathEntry.{PathEntry}
use Rattle.goal_types.specs.declared.goal.Slot.{Slot}
use Rattle.goal_types.specs.declared.goal.SourceFile.{SourceFile}
use Rattle.goal_types.specs.GoalRules.{goal_rule}
use Rattle.goal_types.specs.Lines.{line_of, after_line, has_line}
use Rattle.goal_types.specs.Requests.{source_data, own_data, entry_data, entry_bytes, setting_data, plugin_text, request_object, request_data, request_payload, request_text}
use Rattle.goal_program.specs.Calls.{plugin_in, call_of, call_in}
use Rattle.goal_program.specs.Lists.{listed, source_in, own_in, entry_in}
use Rattle.goal_program.specs.Members.{items_list, all_of}
use Rattle.goal_program.specs.Requests.{lists_of, request_of, request_in}
use Rattle.goal_program.specs.Settings.{setting_in, most_levels}
use Rattle.goal_program.specs.Texts.{cut}
use Rattle.goal_program.proofs.Cuts.{cut_front}
use Rattle.goal_program.specs.Telling.{IsTold}
use Rattle.goal_program.proofs.Feeds.{line_is, after_is, has_one, text_line}
use Rattle.goal_program.proofs.Json.{IsPlain, reads_back}
use Rattle.goal_program.proofs.LawLists.{sources_there, own_all_there, entries_there, items_plain, source_plain, own_plain, entry_plain}
use Rattle.goal_program.proofs.LawSettings.{settings_plain, settings_read}

-- the bytes of each list
abbrev source_bytes : GoalRequest → List ℕ
source_bytes r = flat_map (λ s. s.bytes) r.sources

abbrev own_bytes : GoalRequest → List ℕ
own_bytes r = flat_map (λ o. o.bytes) r.own

abbrev path_bytes : GoalRequest → List ℕ
path_bytes r = flat_map (λ e. entry_bytes e.bytes) r.classpath

-- ---- the line is plain

line_plain : (r : GoalRequest) → length (request_payload r) < 2 ^ 64 → IsPlain (request_data r)
unfolding request_object
line_plain r low =
    let one = length-append (source_bytes r ++ own_bytes r) (path_bytes r) in
    let two = length-append (source_bytes r) (own_bytes r) in
    let low_sources : length (source_bytes r) < 2 ^ 64 = omega (arith, low, one, two) in
    let low_own : length (own_bytes r) < 2 ^ 64 = omega (arith, low, one, two) in
    let low_path : length (path_bytes r) < 2 ^ 64 = omega (arith, low, one, two) in
    let sources = items_plain source_data (λ s. s.bytes) source_plain r.sources low_sources in
    let own = items_plain own_data (λ o. o.bytes) own_plain r.own low_own in
    let path = items_plain entry_data (λ e. entry_bytes e.bytes) entry_plain r.classpath low_path in
    (refl, (tt, (path, (settings_plain r.call.configuration, (tt, (tt, (tt, (own, (tt, (tt, (sources, (tt, tt))))))))))))

-- ---- the call

plugin_there : (r : GoalRequest) → IsTold r → plugin_in (plugin_text r.call) ≡ Some (record { group = r.call.group; artifact = r.call.artifact; version = r.call.version })
plugin_there r told =
    let call = r.call in
    ap plugin_in (append_assoc call.group (58 ∷ call.artifact) (58 ∷ call.version))
    ∙ ap (option_and_then (λ a. option_map (λ b. record { group = a.0; artifact = b.0; version = b.1 }) (cut 58 a.1))) (cut_front 58 call.group (call.artifact ++ 58 ∷ call.version) told.group)
    ∙ ap (option_map (λ b. record { group = call.group; artifact = b.0; version = b.1 })) (cut_front 58 call.artifact call.version told.artifact)

phase_there : (phase : Phase) → phase_of (phase_name phase) ≡ Some phase
unfolding phase_of phase_name
phase_there Validate = refl
phase_there Initialize = refl
phase_there GenerateSources = refl
phase_there ProcessSources = refl
phase_there GenerateResources = refl
phase_there ProcessResources = refl
phase_there Compile = refl
phase_there ProcessClasses = refl
phase_there GenerateTestSources = refl
phase_there ProcessTestSources = refl
phase_there GenerateTestResources = refl
phase_there ProcessTestResources = refl
phase_there TestCompile = refl
phase_there ProcessTestClasses = refl
phase_there Test = refl
phase_there PreparePackage = refl
phase_there Package = refl
phase_there PreIntegrationTest = refl
phase_there IntegrationTest = refl
phase_there PostIntegrationTest = refl
phase_there Verify = refl
phase_there Install = refl
phase_there Deploy = refl

-- the line says its goal and its settings
abbrev call_line : GoalCall → Option GoalCall
call_line call = call_of (plugin_in (plugin_text call)) (Some call.goal) (Some call.execution) (phase_of (phase_name call.phase)) (all_of (setting_in most_levels) (items_list (items_of (map setting_data call.configuration))))

call_says : (r : GoalRequest) → call_in (request_data r) ≡ call_line r.call
unfolding request_object
call_says r = refl

settings_low : (r : GoalRequest) → depth (request_data r) ≤ max_depth → items_depth (items_of (map setting_data r.call.configuration)) ≤ most_levels
unfolding request_object
settings_low r low = omega (arith, low)

-- a call with the slot and the classpath that it has
rule_there : (call : GoalCall) (slot : Slot) (need : Need) → call.slot ≡ slot → call.need ≡ need
    → ◌≡◌ {A = Option GoalCall} (Some (record { group = call.group; artifact = call.artifact; version = call.version; goal = call.goal; execution = call.execution; phase = call.phase; configuration = call.configuration; slot = slot; need = need })) (Some call)
rule_there call slot need s n =
    let back = sym s in
    let needed = sym n in
    λ i. Some (record { group = call.group; artifact = call.artifact; version = call.version; goal = call.goal; execution = call.execution; phase = call.phase; configuration = call.configuration; slot = back i; need = needed i })

call_there : (r : GoalRequest) → IsTold r → call_in (request_data r) ≡ Some r.call
call_there r told =
    let call = r.call in
    let settings = all_of (setting_in most_levels) (items_list (items_of (map setting_data call.configuration))) in
    call_says r
    ∙ ap (λ p. call_of p (Some call.goal) (Some call.execution) (phase_of (phase_name call.phase)) settings) (plugin_there r told)
    ∙ ap (λ p. call_of (Some (record { group = call.group; artifact = call.artifact; version = call.version })) (Some call.goal) (Some call.execution) p settings) (phase_there call.phase)
    ∙ ap (λ p. call_of (Some (record { group = call.group; artifact = call.artifact; version = call.version })) (Some call.goal) (Some call.execution) (Some call.phase) p)
    (settings_read most_levels call.configuration (settings_low r told.nesting))
    ∙ rule_there call (goal_rule call.group call.artifact call.goal).slot (goal_rule call.group call.artifact call.goal).need told.slot told.need

-- ---- the lists

sources_listed : (r : GoalRequest) (more : List ℕ) → listed source_in (codes "sources") (request_data r) (source_bytes r ++ more) ≡ Some (r.sources, more)
unfolding request_object
sources_listed r more = sources_there r.sources more

own_listed : (r : GoalRequest) → IsTold r → (more : List ℕ) → listed own_in (codes "own") (request_data r) (own_bytes r ++ more) ≡ Some (r.own, more)
unfolding request_object
own_listed r told more = own_all_there r.own told.own more

path_listed : (r : GoalRequest) → IsTold r → (more : List ℕ) → listed entry_in (codes "classpath") (request_data r) (path_bytes r ++ more) ≡ Some (r.classpath, more)
unfolding request_object
path_listed r told more = entries_there r.classpath told.files more

payload_parts : (r : GoalRequest) → request_payload r ≡ source_bytes r ++ (own_bytes r ++ (path_bytes r ++ []))
payload_parts r = append_assoc (source_bytes r) (own_bytes r) (path_bytes r) ∙ ap (λ p. source_bytes r ++ (own_bytes r ++ p)) (sym (append-nil (path_bytes r)))

-- the request of these lists, which use up the bytes
abbrev used_up : GoalRequest → List SourceFile × List ℕ → List OwnBytes × List ℕ → List PathEntry × List ℕ → Option GoalRequest
used_up r s o c = if length c.1 == 0 then Some (record { «module» = r.module; call = r.call; sources = s.0; own = o.0; classpath = c.0 }) else None

lists_there : (r : GoalRequest) → IsTold r → lists_of r.module r.call (request_data r) (request_payload r) ≡ Some r
lists_there r told =
    let value = request_data r in
    let behind_own = path_bytes r ++ [] in
    let behind_sources = own_bytes r ++ behind_own in
    ap (lists_of r.module r.call value) (payload_parts r)
    ∙ ap (option_and_then (λ s. option_and_then (λ o. option_and_then (used_up r s o) (listed entry_in (codes "classpath") value o.1)) (listed own_in (codes "own") value s.1))) (sources_listed r behind_sources)
    ∙ ap (option_and_then (λ o. option_and_then (used_up r (r.sources, behind_sources) o) (listed entry_in (codes "classpath") value o.1))) (own_listed r told behind_own)
    ∙ ap (option_and_then (used_up r (r.sources, behind_sources) (r.own, behind_own))) (path_listed r told [])

-- ---- the whole

value_says : (r : GoalRequest) → request_of (request_data r) (request_payload r) ≡ option_and_then (λ call. lists_of r.module call (request_data r) (request_payload r)) (call_in (request_data r))
unfolding request_object
value_says r = refl

value_there : (r : GoalRequest) → IsTold r → request_of (request_data r) (request_payload r) ≡ Some r
value_there r told = value_says r ∙ ap (option_and_then (λ call. lists_of r.module call (request_data r) (request_payload r))) (call_there r told) ∙ lists_there r told

framed : (line rest : List ℕ) → request_in (line ++ 10 ∷ rest) ≡ (if has_line (line ++ 10 ∷ rest) then option_and_then (λ value. request_of value (after_line (line ++ 10 ∷ rest))) (read (line_of (line ++ 10 ∷ rest))) else None)
unfolding request_in
framed line rest = refl

pub request_is_read : (r : GoalRequest) → IsTold r → request_in (request_text r) ≡ Some r
request_is_read r told =
    let line = compact_text (request_data r) in
    let rest = request_payload r in
    let bytes = line ++ 10 ∷ rest in
    let plain = line_plain r told.counts in
    let in_line = text_line (request_data r) plain in
    ap request_in (append_assoc line (10 ∷ []) rest) ∙ framed line rest
    ∙ ap (λ z. if z then option_and_then (λ value. request_of value (after_line bytes)) (read (line_of bytes)) else None) (has_one line rest in_line)
    ∙ ap (λ l. option_and_then (λ value. request_of value (after_line bytes)) (read l)) (line_is line rest in_line)
    ∙ ap (λ a. option_and_then (λ value. request_of value a) (read line)) (after_is line rest in_line)
    ∙ ap (option_and_then (λ value. request_of value rest)) (reads_back (request_data r) plain told.nesting) ∙ value_there r told

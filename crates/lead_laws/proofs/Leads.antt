-- What a name leads to, by the row that is made of its definition.
use Rattle.std.proofs.Common.{◌≡◌, ℕ, ◌<◌, List, [], ◌∷◌, length, Option, Some, None, refl, sym, ap, ◌∙◌, subst}
use Rattle.std.proofs.lemmas.Option.{slice_get_within}
use Rattle.std.specs.Prelude.{map, option_map, option_and_then, slice_get}
use Rattle.chill_tree.specs.declared.tree.name.Name.{Name}
use Rattle.chill_tree.specs.ItemTree.{ProgramTree}
use Rattle.modes.specs.ModeTree.{ModeTree, event, buffer, read, named}
use Rattle.modes.specs.Scalars.{scalars_of}
use Rattle.names_model.specs.Definitions.{text_definitions}
use Rattle.names_model.specs.Resolving.{level_of}
use Rattle.checked_program.specs.declared.expr.Base.{Base}
use Rattle.checked_program.specs.declared.expr.Base.TheVariants as bases
use Rattle.program_trees.specs.ProgramTree.{CheckedTree, LocationRowTree, LocalRowTree, BufferRowTree, SignalRowTree}
use Rattle.checks_model.specs.Ground.{Ground, Entry, Origin, a_signal, origin_of, message_of, message_parts, entry_of, mode_of_entry, number_at, buffer_element, element_of}
use Rattle.elaborated_laws.specs.Rows.{LeadsTo}
use Rattle.elaborated_laws.proofs.Rows.{leads}
use Rattle.elaborated_laws.proofs.Told.{no_some, same_some, there_mapped, there_chained}
use Rattle.elaboration_model.specs.Numbering.{Source, Row, Thing, a_local, a_shared, an_event, a_buffer, a_message, a_region, a_body, no_thing, thing_of, thing_used, event_number, buffer_number, buffer_used, event_used, body_used}
use Rattle.elaboration_model.specs.Parts.{made_of, made_of_some, made_each}
use Rattle.elaboration_model.specs.Elaborated.{source_of, region_around, locals_of, buffer_as, parts_known, signal_as, elaborated}
use Rattle.elaboration_model.specs.Expressions.{base_of}
use Rattle.expression_laws.proofs.Outside.{RowParts, row_parts}
use Rattle.source_meaning.specs.TypedValues.{Context, IsReached, BaseHas, BufferHas}
use Rattle.source_meaning.specs.TypedStatements.{IsEvent, SignalHas}
use Rattle.lead_laws.specs.Leads.{IsWithin, IsNameWithin, IsInBody, NameLeads, NameLeadsLaw}

-- what is made of two parts
record MadeParts {A B C : Type 0} (f : A → B → C) (a : Option A) (b : Option B) (y : C) : Type 0 where
  first : A
  second : B
  of_first : a ≡ Some first
  of_second : b ≡ Some second
  whole : f first second ≡ y

made_parts : {A B C : Type 0} (f : A → B → C) (a : Option A) (b : Option B) (y : C) → made_of f a b ≡ Some y → MadeParts f a b y
made_parts f (Some a) (Some b) y is = record { first = a; second = b; of_first = refl; of_second = refl; whole = same_some (f a b) y is }
made_parts f None b y is = no_some y is
made_parts f (Some a) None y is = no_some y is

module _ (g : Ground) (t : ProgramTree) (p : CheckedTree) (ctx : Context) (body : ℕ) (made : elaborated g t ≡ Some p) (is_in : IsInBody (source_of g t) p ctx body) where
  -- the definition of a name, with what it leads to
  record UsedIs (n : Name) (thing : Thing) : Type 0 where
    number : ℕ
    is : number_at g.uses n.at ≡ Some number
    of : thing_of (source_of g t).rows number ≡ thing
    leads_to : LeadsTo (source_of g t) p number thing

  used_is : (n : Name) (thing : Thing) → thing_used (source_of g t) n ≡ Some thing → UsedIs n thing
  used_is n thing is =
      let there = there_mapped (thing_of (source_of g t).rows) (number_at g.uses n.at) thing is in
      record { number = there.0; is = there.1; of = there.2; leads_to = subst (λ x. LeadsTo (source_of g t) p there.0 x) there.2 (leads (source_of g t) t p there.0 made) }

  -- the mode of the row that a name leads to is that of its entry
  row_mode : (n : Name) (d : ℕ) (r : Row) (m : ModeTree) → number_at g.uses n.at ≡ Some d → slice_get (source_of g t).rows d ≡ Some r → mode_of_entry (entry_of g n) ≡ Some m → r.mode ≡ Some m
  row_mode n d r m is at mode =
      let parts = row_parts (text_definitions (level_of t)) g.origins g.entries d r at in
      let entry : entry_of g n ≡ Some parts.entry = ap (option_and_then (slice_get g.entries)) is ∙ parts.has in
      parts.mode ∙ (sym (ap mode_of_entry entry) ∙ mode)

  base_leads : (n : Name) (m : ModeTree) (b : Base) → IsNameWithin (source_of g t) ctx body n → mode_of_entry (entry_of g n) ≡ Some m → option_and_then base_of (thing_used (source_of g t) n) ≡ Some b → BaseHas ctx b m
  base_leads n m b within mode is =
      let there = there_chained base_of (thing_used (source_of g t) n) b is in
      let used = used_is n there.0 there.1 in
      by there.0 used (subst (λ x. IsWithin (source_of g t) ctx body used.number x) used.of (within used.number used.is)) there.2
    where
      by : (thing : Thing) (used : UsedIs n thing) → IsWithin (source_of g t) ctx body used.number thing → base_of thing ≡ Some b → BaseHas ctx b m
      by (a_shared k) used inside base =
          let lead = used.leads_to in
          let row = there_mapped (λ m. record { definition = used.number; name = lead.0.name; mode = m; region = region_around (source_of g t).rows lead.0.inside }) lead.0.mode lead.1 lead.4 in
          let same = same_some row.0 m (sym row.1 ∙ row_mode n used.number lead.0 m used.is lead.2 mode) in
          subst (λ x. BaseHas ctx x m) (same_some (bases.Shared k) b base)
          (lead.1, ap (λ (q : CheckedTree). slice_get q.locations k) is_in.program ∙ lead.3, sym (ap (λ (q : LocationRowTree). q.mode) row.2) ∙ same, subst (λ z. IsReached z ctx.region) (ap (λ (q : LocationRowTree). q.region) row.2) (inside lead.0 lead.2))
      by (a_local c k) used inside base =
          let lead = used.leads_to ctx.rows (ap (locals_of (source_of g t)) inside ∙ is_in.locals) in
          let made_of_row = lead.1 in
          let row = there_mapped (λ m. record { name = made_of_row.0.name; mode = m; first = lead.0; count = scalars_of m }) made_of_row.0.mode made_of_row.1 made_of_row.4 in
          let same = same_some row.0 m (sym row.1 ∙ row_mode n used.number made_of_row.0 m used.is made_of_row.2 mode) in
          subst (λ x. BaseHas ctx x m) (same_some (bases.Local k) b base) (made_of_row.1, made_of_row.3, sym (ap (λ (q : LocalRowTree). q.mode) row.2) ∙ same)
      by (an_event k) used inside base = no_some b base
      by (a_buffer k) used inside base = no_some b base
      by (a_message k) used inside base = no_some b base
      by (a_region k) used inside base = no_some b base
      by (a_body k) used inside base = no_some b base
      by no_thing used inside base = no_some b base

  event_leads : (n : Name) (k : ℕ) → event_used (source_of g t) n ≡ Some k → IsEvent ctx k
  event_leads n k is =
      let there = there_chained event_number (thing_used (source_of g t) n) k is in
      by there.0 (used_is n there.0 there.1) there.2
    where
      by : (thing : Thing) → UsedIs n thing → event_number thing ≡ Some k → IsEvent ctx k
      by (an_event j) used number =
          let lead = used.leads_to in
          subst (λ i. i < length ctx.program.events) (same_some j k number) (slice_get_within ctx.program.events j lead.1 (ap (λ (q : CheckedTree). slice_get q.events j) is_in.program ∙ lead.3))
      by (a_shared j) used number = no_some k number
      by (a_local c j) used number = no_some k number
      by (a_buffer j) used number = no_some k number
      by (a_message j) used number = no_some k number
      by (a_region j) used number = no_some k number
      by (a_body j) used number = no_some k number
      by no_thing used number = no_some k number

  -- the elements of a buffer's mode are those of its row
  element_row : (d : ℕ) (r : Row) (k m : ModeTree) (made_row : BufferRowTree) → element_of k ≡ Some m → buffer_as d r k ≡ Some made_row → made_row.element ≡ m
  element_row d r (buffer l e) m made_row element is = sym (ap (λ (q : BufferRowTree). q.element) (same_some (record { definition = d; name = r.name; length = l; element = e }) made_row is)) ∙ same_some e m element
  element_row d r (read k) m made_row element is = element_row d r k m made_row element is
  element_row d r (named j n k) m made_row element is = element_row d r k m made_row element is
  element_row d r k m made_row element is = no_some made_row is

  buffer_leads : (n : Name) (m : ModeTree) (k : ℕ) → buffer_element g n ≡ Some m → buffer_used (source_of g t) n ≡ Some k → BufferHas ctx k m
  buffer_leads n m k element is =
      let there = there_chained buffer_number (thing_used (source_of g t) n) k is in
      by there.0 (used_is n there.0 there.1) there.2
    where
      by : (thing : Thing) → UsedIs n thing → buffer_number thing ≡ Some k → BufferHas ctx k m
      by (a_buffer j) used number =
          let lead = used.leads_to in
          let own = there_chained element_of (mode_of_entry (entry_of g n)) m element in
          let mode_is = row_mode n used.number lead.0 own.0 used.is lead.2 own.1 in
          subst (λ i. BufferHas ctx i m) (same_some j k number) (lead.1, ap (λ (q : CheckedTree). slice_get q.buffers j) is_in.program ∙ lead.3, element_row used.number lead.0 own.0 m lead.1 own.2 (sym (ap (option_and_then (buffer_as used.number lead.0)) mode_is) ∙ lead.4))
      by (a_shared j) used number = no_some k number
      by (a_local c j) used number = no_some k number
      by (an_event j) used number = no_some k number
      by (a_message j) used number = no_some k number
      by (a_region j) used number = no_some k number
      by (a_body j) used number = no_some k number
      by no_thing used number = no_some k number

  -- the parts of a signal are those of its row
  all_some : (ms : List (Option ModeTree)) (own : List ModeTree) → made_each (λ (m : Option ModeTree). m) ms ≡ Some own → ms ≡ map Some own
  all_some [] own is = ap (map Some) (same_some [] own is)
  all_some (m ∷ ms) own is =
      let parts = made_parts (λ (y : ModeTree) (ys : List ModeTree). y ∷ ys) m (made_each (λ (m : Option ModeTree). m) ms) own is in
      ap (λ x. x ∷ ms) parts.of_first ∙ (ap (λ xs. Some parts.first ∷ xs) (all_some ms parts.second parts.of_second) ∙ ap (map Some) parts.whole)

  signal_leads : (n : Name) (k : ℕ) (ms : List (Option ModeTree)) → thing_used (source_of g t) n ≡ Some (a_message k) → message_parts g n ≡ Some ms → (own : List ModeTree) × (SignalHas ctx k own × (ms ≡ map Some own))
  signal_leads n k ms used_as are =
      let used = used_is n (a_message k) used_as in
      let lead = used.leads_to in
      let parts = row_parts (text_definitions (level_of t)) g.origins g.entries used.number lead.0 lead.2 in
      let entry : entry_of g n ≡ Some parts.entry = ap (option_and_then (slice_get g.entries)) used.is ∙ parts.has in
      let origin : origin_of g n ≡ Some lead.0.origin = ap (option_and_then (slice_get g.origins)) used.is ∙ parts.origin in
      let message = sym (ap (λ e. message_of e (Some lead.0.origin)) entry) ∙ (sym (ap (message_of (entry_of g n)) origin) ∙ are) in
      by lead.0.origin used.number lead.0 parts.entry lead.1 parts.has message lead.4 lead.3
    where
      by : (o : Origin) (d : ℕ) (r : Row) (e : Entry) (made_row : SignalRowTree) → slice_get g.entries d ≡ Some e → message_of (Some e) (Some o) ≡ Some ms → signal_as (source_of g t) d r o ≡ Some made_row → slice_get p.signals k ≡ Some made_row → (own : List ModeTree) × (SignalHas ctx k own × (ms ≡ map Some own))
      by (a_signal own) d r e made_row has message is at =
          let signal_of : List ModeTree → Option ℕ → SignalRowTree = λ ms to. record { definition = d; name = r.name; parts = ms; process = to } in
          let there = made_parts signal_of (parts_known g d) (made_of_some (body_used (source_of g t)) own.process) made_row is in
          let modes = all_some e.parts there.first (sym (ap (option_and_then (λ (e : Entry). made_each (λ (m : Option ModeTree). m) e.parts)) has) ∙ there.of_first) in
          (there.first, ((made_row, ap (λ (q : CheckedTree). slice_get q.signals k) is_in.program ∙ at, sym (ap (λ (q : SignalRowTree). q.parts) there.whole)), sym (same_some e.parts ms message) ∙ modes))
      by o d r e made_row has message is at = no_some made_row is

  name_leads : (n : Name) → IsNameWithin (source_of g t) ctx body n → NameLeads (source_of g t) ctx n
  name_leads n within = record { base = λ m b mode is. base_leads n m b within mode is; buffer = buffer_leads n; event = event_leads n; signal = signal_leads n }

pub name_leads_law : NameLeadsLaw
name_leads_law g t p ctx body n made is_in within = name_leads g t p ctx body made is_in n within

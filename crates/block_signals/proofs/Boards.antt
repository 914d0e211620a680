-- What is known, moment by moment.
use Rattle.std.proofs.Common.{◌≡◌, ℕ, ◌-◌, Bool, true, false, eqb, ◌&&◌, if◌then◌else◌, List, [], ◌∷◌, Option, Some, None, map, refl, ap, ◌∙◌}
use Rattle.std.specs.Option.{option_and_then}
use Rattle.std.proofs.lemmas.Bool.{false≢true, eqb-true}
use Rattle.plugin_decl.specs.declared.declaration.Port.{Port}
use Rattle.plugin_decl.specs.declared.declaration.PortKind.{PortKind}
use Rattle.plugin_decl.specs.declared.declaration.PortKind.TheVariants as kind
use Rattle.session_script.specs.declared.session.Action.{Action}
use Rattle.session_script.specs.declared.session.CableLine.{CableLine}
use Rattle.step_law.specs.declared.entry.Kind.TheVariants.{Take, End}
use Rattle.step_law.specs.declared.ring.Ring.TheVariants.{ControlToAudio}
use Rattle.atom_sequence.specs.Merge.{merged}
use Rattle.plug_api.specs.Inputs.{Outputs}
use Rattle.plug_api.specs.Signal.{Signal, sound, events, nothing, samples_in, events_in}
use Rattle.graph_order.specs.declared.setup.Setup.{Setup}
use Rattle.record_law.specs.Entries.{kind_number, is_kind, is_on}
use Rattle.session_play.specs.EventBytes.{events_at, bytes_of}
use Rattle.session_play.specs.Looking.{is_block, in_block, before_block, ends_on, if_so, newer, outputs_of}
use Rattle.session_play.specs.Setup.{ports_of}
use Rattle.session_play.specs.Signals.{cable_signal, cables_to, mixed, set_at, value_taken, action_in, action_taken, message_to, put_event, messages_taken, output_in}
use Rattle.session_play.specs.Signals as played
use Rattle.session_play.specs.Value.{Moment, Play, given_in, outputs_ended}
use Rattle.block_signals.specs.Board.{board_of}
use Rattle.block_signals.specs.Given.{cable_brings, coming, input_given, port_given}
use Rattle.block_signals.specs.Laws.{BoardGivesInputs, BlockBegins, RunEnds, ActionIsTaken, NothingElseCounts}

-- ---- what is known says what a run is given

cable_same : {F B : Type 0} → (setup : Setup) (urids : List (List ℕ)) (own : Play F B) (cable : CableLine)
    → cable_signal setup own cable ≡ cable_brings setup (board_of setup urids own) cable
cable_same setup urids own cable = by cable.delayed
  where
    by : (delayed : Bool) → cable_signal setup own (record cable { delayed = delayed }) ≡ cable_brings setup (board_of setup urids own) (record cable { delayed = delayed })
    by false = refl
    by true = refl

coming_same : {F B : Type 0} → (setup : Setup) (urids : List (List ℕ)) (own : Play F B) (inst : ℕ) (port : Port)
    → played.coming setup own inst port ≡ coming setup (board_of setup urids own) inst port
coming_same setup urids own inst port = λ t. map (λ cable. cable_same setup urids own cable t) (cables_to setup inst port)

input_same : {F B : Type 0} → (kind : PortKind) (setup : Setup) (urids : List (List ℕ)) (own : Play F B) (inst : ℕ) (port : Port)
    → played.input_of kind setup urids own inst port ≡ input_given kind setup (board_of setup urids own) inst port
input_same kind.Audio setup urids own inst port =
    ap (λ signals. sound (mixed setup.session.block (map samples_in signals))) (coming_same setup urids own inst port)
input_same kind.Cv setup urids own inst port =
    ap (λ signals. sound (mixed setup.session.block (map samples_in signals))) (coming_same setup urids own inst port)
input_same kind.Control setup urids own inst port = refl
input_same kind.Atom setup urids own inst port =
    ap (λ signals. events (bytes_of (merged (port.room - 16) (played.messages_in setup urids own inst port ∷ map (λ it. events_at (events_in it)) signals))))
    (coming_same setup urids own inst port)
input_same kind.Unsupported setup urids own inst port = refl

port_same : {F B : Type 0} → (setup : Setup) (urids : List (List ℕ)) (own : Play F B) (inst : ℕ) (port : Port)
    → played.port_given setup urids own inst port ≡ port_given setup (board_of setup urids own) inst port
port_same setup urids own inst port = ap (λ (given : Signal). if port.input then given else nothing) (input_same port.kind setup urids own inst port)

pub board_gives_inputs : {F B : Type 0} → BoardGivesInputs F B
board_gives_inputs setup urids own inst = λ t. record {
  frames = setup.session.block;
  signals = map (λ port. port_same setup urids own inst port t) (ports_of setup inst);
  rooms = map (λ (port : Port). port.room) (ports_of setup inst);
}

-- ---- which moments are which

-- an entry of one kind is of no other
other_kind : (n k m : ℕ) → eqb n k ≡ true → eqb k m ≡ false → eqb n m ≡ false
other_kind n k m is other = ap (λ it. eqb it m) (eqb-true n k is) ∙ other

first_of : (a b : Bool) → (a && b) ≡ true → a ≡ true
first_of true b is = refl
first_of false b is = absurd (false≢true is)

second_of : (a b : Bool) → (a && b) ≡ true → b ≡ true
second_of true b is = is
second_of false b is = absurd (false≢true is)

none_of : (a b : Bool) → a ≡ false → (a && b) ≡ false
none_of a b is = ap (λ it. it && b) is

cond_none : {X : Type 0} → (b : Bool) → if_so {X = X} b None ≡ None
cond_none true = refl
cond_none false = refl

taken_some : (on : Bool) (found : Option Action) (action : Action) → (if on then found else None) ≡ Some action → on ≡ true
taken_some true found action is = refl
taken_some false found action is = absurd (cc)

-- an entry at which an action is taken is a take
taken_on : {F B : Type 0} → (setup : Setup) (x : Moment F B) (action : Action) → action_taken setup x ≡ Some action → is_kind Take x.step.entry ≡ true
taken_on setup x action is = first_of _ _ (taken_some (is_on Take ControlToAudio x.step.entry) (action_in setup x.step.about) action is)

no_take : {F B : Type 0} → (setup : Setup) (x : Moment F B) → is_kind Take x.step.entry ≡ false → action_taken setup x ≡ None
no_take setup x is = ap (λ on. if on then action_in setup x.step.about else None) (none_of _ _ is)

-- ---- the parts of what is known, after a moment

-- within a block
within : {F B : Type 0} → (x : Moment F B) (own : Play F B) → is_block x ≡ false → in_block (x ∷ own) ≡ x ∷ in_block own
within x own is = ap (λ b. if b then [] else x ∷ in_block own) is

still_before : {F B : Type 0} → (x : Moment F B) (own : Play F B) → is_block x ≡ false → before_block (x ∷ own) ≡ before_block own
still_before x own is = ap (λ b. if b then own else before_block own) is

value_same : {F B : Type 0} → (setup : Setup) (x : Moment F B) (own : Play F B) (inst : ℕ) (port : Port) (taken : Option Action) → action_taken setup x ≡ taken
    → value_taken setup (x ∷ own) inst port ≡ newer (option_and_then (set_at inst port) taken) (value_taken setup own inst port)
value_same setup x own inst port taken is = ap (λ it. newer (option_and_then (set_at inst port) it) (value_taken setup own inst port)) is

message_same : {F B : Type 0} → (setup : Setup) (urids : List (List ℕ)) (x : Moment F B) (own : Play F B) (inst : ℕ) (taken : Option Action)
    → action_taken setup x ≡ taken
    → messages_taken setup urids (x ∷ own) inst ≡ put_event (option_and_then (message_to urids inst) taken) (messages_taken setup urids own inst)
message_same setup urids x own inst taken is =
    ap (λ it. put_event (option_and_then (message_to urids inst) it) (messages_taken setup urids own inst)) is

output_same : {F B : Type 0} → (x : Moment F B) (own : Play F B) (inst : ℕ) (on : Bool) (given : Option Outputs)
    → ends_on inst x.step.entry ≡ on → given_in outputs_ended x.value ≡ given
    → outputs_of inst (x ∷ own) ≡ newer (if_so on given) (outputs_of inst own)
output_same x own inst on given is gives = λ t. newer (if_so (is t) (gives t)) (outputs_of inst own)

-- ---- the laws

pub block_begins : {F B : Type 0} → BlockBegins F B
block_begins setup urids x own is =
    let none : action_taken setup x ≡ None = no_take setup x (other_kind (kind_number x.step.entry.kind) 0 2 is refl) in
    λ t. record {
      now = λ inst. outputs_of inst (if is t then [] else x ∷ in_block own);
      before = λ inst. outputs_of inst (in_block (if is t then own else before_block own));
      values = λ inst port. value_same setup x own inst port None none t;
      messages = λ inst. messages_taken setup urids (if is t then [] else x ∷ in_block own) inst;
    }

-- within a block, with what the moment gave and took
step_within : {F B : Type 0} → (setup : Setup) (urids : List (List ℕ)) (x : Moment F B) (own : Play F B) (on : ℕ → Bool) (given : Option Outputs) (taken : Option Action)
    → is_block x ≡ false → ((inst : ℕ) → ends_on inst x.step.entry ≡ on inst) → given_in outputs_ended x.value ≡ given → action_taken setup x ≡ taken
    → board_of setup urids (x ∷ own) ≡ record {
      now = λ inst. newer (if_so (on inst) given) (outputs_of inst (in_block own));
      before = λ inst. outputs_of inst (in_block (before_block own));
      values = λ inst port. newer (option_and_then (set_at inst port) taken) (value_taken setup own inst port);
      messages = λ inst. put_event (option_and_then (message_to urids inst) taken) (messages_taken setup urids (in_block own) inst);
    }
step_within setup urids x own on given taken block ends gives takes = λ t. record {
  now = λ inst. (ap (outputs_of inst) (within x own block) ∙ output_same x (in_block own) inst (on inst) given (ends inst) gives) t;
  before = λ inst. outputs_of inst (in_block (still_before x own block t));
  values = λ inst port. value_same setup x own inst port taken takes t;
  messages = λ inst. (ap (λ p. messages_taken setup urids p inst) (within x own block) ∙ message_same setup urids x (in_block own) inst taken takes) t;
}

-- what a run gave is what is known of its instance
given_to : (b : Bool) (outputs : Outputs) (older : Option Outputs) → newer (if_so b (Some outputs)) older ≡ (if b then Some outputs else older)
given_to true outputs older = refl
given_to false outputs older = refl

pub run_ends : {F B : Type 0} → RunEnds F B
run_ends setup urids x own inst front outputs is gives =
    let end : is_kind End x.step.entry ≡ true = first_of _ _ is in
    let here : x.step.entry.b ≡ inst = eqb-true x.step.entry.b inst (second_of _ _ is) in
    step_within setup urids x own (λ other. eqb inst other) (Some outputs) None (other_kind (kind_number x.step.entry.kind) 9 0 end refl)
    (λ other. λ t. end t && eqb (here t) other) (ap (given_in outputs_ended) gives) (no_take setup x (other_kind (kind_number x.step.entry.kind) 9 2 end refl))
    ∙ (λ t. record {
      now = λ other. given_to (eqb inst other) outputs (outputs_of other (in_block own)) t;
      before = λ other. outputs_of other (in_block (before_block own));
      values = λ other port. value_taken setup own other port;
      messages = λ other. messages_taken setup urids (in_block own) other;
    })

pub action_is_taken : {F B : Type 0} → ActionIsTaken F B
action_is_taken setup urids x own action is =
    let take : is_kind Take x.step.entry ≡ true = taken_on setup x action is in
    step_within setup urids x own (λ other. false) (given_in outputs_ended x.value) (Some action)
    (other_kind (kind_number x.step.entry.kind) 2 0 take refl)
    (λ other. none_of _ _ (other_kind (kind_number x.step.entry.kind) 2 9 take refl)) refl is

pub nothing_else_counts : {F B : Type 0} → NothingElseCounts F B
nothing_else_counts setup urids x own block gives takes =
    step_within setup urids x own (λ inst. ends_on inst x.step.entry) None None block (λ inst. refl) gives takes
    ∙ (λ t. record {
      now = λ inst. newer (cond_none {X = Outputs} (ends_on inst x.step.entry) t) (outputs_of inst (in_block own));
      before = λ inst. outputs_of inst (in_block (before_block own));
      values = λ inst port. value_taken setup own inst port;
      messages = λ inst. messages_taken setup urids (in_block own) inst;
    })

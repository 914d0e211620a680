-- What the events of a sequence ask, read off their bytes.
use Rattle.std.proofs.Common.{◌≡◌, ℕ, List, [], ◌∷◌, Option, Some, None, FitsSigned, sym, ap, ◌∙◌, subst, refl, arith}
use Rattle.std.specs.Int.{w64}
use Rattle.std.proofs.Math.Logic.{∥∥₁_elim, ∥∥₁_map}
use Rattle.std.proofs.Props.{props}
use Rattle.atom_core.specs.declared.form.Form.TheVariants.{Sequence}
use Rattle.atom_core.specs.Value.{sequence, Lead, Value, holding, Parts, none, part}
use Rattle.atom_core.specs.Fits.{LeadFits}
use Rattle.atom_core.specs.Answer.{Spells}
use Rattle.atom_core.specs.Atoms.{SpellEvents, AreEvents, HoldsEvents, events_in as held_in}
use Rattle.atom_core.specs.Iterating.{Event, TakesEvent, NextEvent}
use Rattle.atom_core.proofs.Firsts.{fits_more}
use Rattle.atom_value.proofs.Read.{events_spelled}
use Rattle.stock_tank.specs.declared.ask.Ask.{Ask}
use Rattle.stock_tank.specs.Requests.{Request, ask_of, requests_of, requests_in}

pub requests_set : IsSet (List Request)
requests_set = hlevel props

pub requests_spelled : (key : ℕ) (bytes : List ℕ) (parts : Parts) → SpellEvents bytes parts → requests_in key bytes ≡ requests_of key parts
unfolding requests_in
requests_spelled key bytes parts spells = ap (requests_of key) (events_spelled bytes parts spells)

-- an iterator over some events, or none
pub some_held : (bytes : List ℕ) (held : Option Parts) → HoldsEvents (Some bytes) held → AreEvents bytes
some_held bytes None holds = absurd holds
some_held bytes (Some parts) holds = (parts, holds)

pub nothing_spelled : AreEvents []
nothing_spelled = (none, (tt, refl))

-- what is left after a call are events
takes_on : (parts : Parts) (found : Option Event) (after : List ℕ) → TakesEvent parts found after → AreEvents after
takes_on none None after takes = subst AreEvents (sym takes) nothing_spelled
takes_on none (Some found) after takes = absurd takes
takes_on (part lead value parts) None after takes = absurd takes
takes_on (part lead value parts) (Some found) after takes = (parts, takes.2)

pub events_after : (before : List ℕ) (found : Option Event) (after : List ℕ) → ∥ AreEvents before ∥₁ → NextEvent before found after → ∥ AreEvents after ∥₁
events_after before found after spelled next = ∥∥₁_map spelled (λ a. takes_on a.0 found after (next a.0 a.1))

no_more : (key : ℕ) (parts : Parts) (after : List ℕ) → TakesEvent parts None after → requests_of key parts ≡ []
no_more key none after takes = refl
no_more key (part lead value parts) after takes = absurd takes

pub none_left : (key : ℕ) (before after : List ℕ) → ∥ AreEvents before ∥₁ → NextEvent before None after → requests_in key before ≡ []
none_left key before after spelled next =
    ∥∥₁_elim spelled (requests_set _ _) (λ a. requests_spelled key before a.0 a.1 ∙ no_more key a.0 after (next a.0 a.1))

one_more : (key : ℕ) (before : List ℕ) (parts : Parts) (found : Event) (after : List ℕ) (ask : Ask) → SpellEvents before parts
    → TakesEvent parts (Some found) after → ((v : Value) → Spells found.1.bytes.now v → ask ≡ ask_of key v)
    → requests_of key parts ≡ (found.0, ask) ∷ requests_in key after
one_more key before none found after ask spells takes asks = absurd takes
one_more key before (part lead value parts) found after ask spells takes asks =
    let value_asks : ask ≡ ask_of key value = asks value (record { fits = fits_more 15 16 value (omega arith) (spells.0.2); bytes_are = takes.1 }) in
    ap (λ (l : Lead). requests_of key (part l value parts)) takes.0
    ∙ ap (λ (a : Ask). (found.0, a) ∷ requests_of key parts) (sym value_asks)
    ∙ ap (λ (requests : List Request). (found.0, ask) ∷ requests) (sym (requests_spelled key after parts takes.2))

pub some_left : (key : ℕ) (before : List ℕ) (found : Event) (after : List ℕ) (ask : Ask) → ∥ AreEvents before ∥₁ → NextEvent before (Some found) after
    → ((v : Value) → Spells found.1.bytes.now v → ask ≡ ask_of key v) → requests_in key before ≡ (found.0, ask) ∷ requests_in key after
some_left key before found after ask spelled next asks =
    ∥∥₁_elim spelled (requests_set _ _) (λ a. requests_spelled key before a.0 a.1 ∙ one_more key before a.0 found after ask a.1 (next a.0 a.1) asks)

-- a time is a number of 64 bits
timed_fits : (parts : Parts) (found : Event) (before after : List ℕ) → SpellEvents before parts → TakesEvent parts (Some found) after → FitsSigned w64 found.0
timed_fits none found before after spells takes = absurd takes
timed_fits (part lead value parts) found before after spells takes = subst (LeadFits Sequence) takes.0 spells.0.1

pub time_fits : (before : List ℕ) (found : Event) (after : List ℕ) → ∥ AreEvents before ∥₁ → NextEvent before (Some found) after → FitsSigned w64 found.0
time_fits before found after spelled next =
    let one : IsProp (FitsSigned w64 found.0) = hlevel props in ∥∥₁_elim spelled one (λ a. timed_fits a.0 found before after a.1 (next a.0 a.1))

-- the events of a sequence
pub sequence_spelled : (bytes after : List ℕ) (parts : Parts) → Spells bytes (holding sequence parts)
    → ((v : Value) → Spells bytes v → HoldsEvents (Some after) (held_in v)) → SpellEvents after parts
sequence_spelled bytes after parts spells holds = holds (holding sequence parts) spells

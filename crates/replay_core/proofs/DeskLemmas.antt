-- What stands ready stays ready.
use Rattle.std.proofs.Common.{◌≡◌, ℕ, zero, suc, Bool, true, false, List, Some, if◌then◌else◌, length, replicate, refl, ap, ◌∙◌, subst, arith, length-append}
use Rattle.std.proofs.lemmas.List.{length-replicate}
use Rattle.std.proofs.lemmas.List.Elements.{All-same, All-replicate}
use Rattle.lv_base.specs.declared.number.Fixed.{Fixed}
use Rattle.lv_base.specs.declared.number.Sample.{Sample}
use Rattle.session_script.specs.declared.session.Session.{Session}
use Rattle.audio_api.specs.declared.stock.StockPorts.{StockPorts}
use Rattle.audio_api.specs.Inputs.{Inputs, silent_inputs, samples_at, with_samples, with_value}
use Rattle.audio_api.specs.Outputs.{Outputs, silent_outputs}
use Rattle.audio_api.specs.Sound.{silence, silent}
use Rattle.audio_api.specs.StockPorts.{const_ports, amp_ports}
use Rattle.replay_core.specs.declared.desk.Desk.{Desk}
use Rattle.replay_core.specs.Signals.{with_audio, mixed}
use Rattle.replay_core.specs.Play.{silent_signals}
use Rattle.replay_core.specs.Desk.{IsReady}

-- a desk whose outputs are like new ones is silent
pub new-signals : (s : Session) (desk : Desk) (outs : Outputs) (values : ℕ) → IsReady s desk → outs ≡ silent_outputs (length desk.outs.blocks) s.block values → outs.blocks ≡ silent_signals s
new-signals s desk outs values ready new =
    ap (λ (outs : Outputs). outs.blocks) new ∙ ap (λ n. replicate n (silence s.block)) ready.places

-- and it is ready
pub new-ready : (s : Session) (desk : Desk) (outs : Outputs) → IsReady s desk → outs.blocks ≡ silent_signals s → IsReady s (record desk { outs = outs })
new-ready s desk outs ready quiet = record {
  count = ready.count;
  strips = ready.strips;
  places = ap length quiet ∙ length-replicate (length s.insts) (silence s.block);
  whole = All-same (λ block. length block ≡ s.block) _ _ quiet (All-replicate (λ block. length block ≡ s.block) (length s.insts) (silence s.block) (length-replicate s.block silent));
  mixer = ready.mixer;
}

-- a mix has its frames
pub length-mixed : (frames : ℕ) (parts : List (List Sample)) → length (mixed frames parts) ≡ frames
length-mixed zero parts = refl
length-mixed (suc n) parts = rw (length-append, length-mixed n parts) (omega arith)

-- the ports of one of the two codes, and its inputs
abbrev pub ports_by : Bool → StockPorts
ports_by is_const = if is_const then const_ports else amp_ports

abbrev pub quiet_by : StockPorts → ℕ → Fixed → Inputs
quiet_by ports frames value = with_value (silent_inputs ports.count frames) ports.control value

-- silence at the audio input is how inputs begin
pub with_audio-silence : (is_const : Bool) (frames : ℕ) (value : Fixed) → with_audio (ports_by is_const).audio_in (quiet_by (ports_by is_const) frames value) (silence frames) ≡ quiet_by (ports_by is_const) frames value
with_audio-silence true frames value = refl
with_audio-silence false frames value = refl

-- the signal at the audio input
pub samples_at-with_audio : (is_const : Bool) (frames port : ℕ) (value : Fixed) (signal : List Sample) → (ports_by is_const).audio_in ≡ Some port → samples_at (with_audio (ports_by is_const).audio_in (quiet_by (ports_by is_const) frames value) signal) port ≡ signal
samples_at-with_audio true frames port value signal e = cc
samples_at-with_audio false frames port value signal e =
    let is : 1 ≡ port = cc in
    subst (λ (n : ℕ). samples_at (with_audio (ports_by false).audio_in (quiet_by (ports_by false) frames value) signal) n ≡ signal) is refl

-- another signal in its place
pub with_samples-with_audio : (is_const : Bool) (frames port : ℕ) (value : Fixed) (signal other : List Sample) → (ports_by is_const).audio_in ≡ Some port → with_samples (with_audio (ports_by is_const).audio_in (quiet_by (ports_by is_const) frames value) signal) port other ≡ with_audio (ports_by is_const).audio_in (quiet_by (ports_by is_const) frames value) other
with_samples-with_audio true frames port value signal other e = cc
with_samples-with_audio false frames port value signal other e =
    let is : 1 ≡ port = cc in
    subst (λ (n : ℕ). with_samples (with_audio (ports_by false).audio_in (quiet_by (ports_by false) frames value) signal) n other ≡ with_audio (ports_by false).audio_in (quiet_by (ports_by false) frames value) other) is refl

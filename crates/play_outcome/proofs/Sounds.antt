-- The sound of a play grows by whole blocks.
use Rattle.std.proofs.Common.{◌≡◌, ℕ, suc, ◌+◌, ◌*◌, Bool, true, false, cond, List, [], ◌∷◌, ◌++◌, length, map, flat_map, refl, sym, ap, ◌∙◌, append_assoc, arith}
use Rattle.std.specs.List.{range_with_len}
use Rattle.std.specs.Prelude.{slice_index_or}
use Rattle.std.proofs.Math.Nat.{mul-zero, mul-suc}
use Rattle.plug_api.specs.Sound.{silent}
use Rattle.std.proofs.lemmas.List.{length-append, append-nil}
use Rattle.std.proofs.lemmas.List.FromFn.{length-range_with_len}
use Rattle.step_law.specs.declared.actor.Actor.TheVariants.{Audio}
use Rattle.step_law.specs.declared.entry.Kind.TheVariants.{Done}
use Rattle.lv_base.specs.declared.number.Sample.{Sample}
use Rattle.record_law.specs.Entries.{is_kind}
use Rattle.record_law.specs.History.{one_more}
use Rattle.session_play.specs.Looking.{steps_of, doings, in_block}
use Rattle.session_play.specs.Playing.{then_played, step_at, value_at}
use Rattle.graph_order.specs.declared.setup.Setup.{Setup}
use Rattle.session_play.specs.Value.{Moment, Play}
use Rattle.play_outcome.specs.Counts.{number_of}
use Rattle.play_outcome.specs.Pcm.{sample_bytes, channel_in, frame_bytes, block_bytes, sound_of}
use Rattle.play_outcome.specs.Laws.{SoundGoesOn, SoundIsWhole}

plus_swap : (a b : ℕ) → a + b ≡ b + a
plus_swap a b = omega arith

-- ---- it goes on

one_on : {F B : Type 0} → (setup : Setup) (x : Moment F B) (p : Play F B) → (more : List ℕ) × (sound_of setup (x ∷ p) ≡ sound_of setup p ++ more)
one_on setup x p = by (is_kind Done x.step.entry)
  where
    by : (b : Bool) → (more : List ℕ) × (cond b (sound_of setup p ++ block_bytes setup (in_block (doings Audio p))) (sound_of setup p) ≡ sound_of setup p ++ more)
    by true = (block_bytes setup (in_block (doings Audio p)), refl)
    by false = ([], sym (append-nil (sound_of setup p)))

pub sound_goes_on : {F B : Type 0} → SoundGoesOn F B
sound_goes_on run p [] = ([], sym (append-nil (sound_of run.setup p)))
sound_goes_on run p (e ∷ later) =
    let next = then_played run p e in
    let rest = sound_goes_on run next later in
    let x = step_at run p e in
    let first = one_on run.setup (record { step = x; value = value_at run p x }) p in
    (first.0 ++ rest.0, rest.1 ∙ ap (λ l. l ++ rest.0) first.1 ∙ append_assoc (sound_of run.setup p) first.0 rest.0)

-- ---- it is whole

length_all : {X A : Type 0} → (f : X → List A) (k : ℕ) → ((x : X) → length (f x) ≡ k) → (xs : List X) → length (flat_map f xs) ≡ k * length xs
length_all f k each [] = sym (mul-zero k)
length_all f k each (x ∷ xs) =
    length-append (f x) (flat_map f xs) ∙ (λ i. each x i + length_all f k each xs i) ∙ plus_swap k (k * length xs) ∙ sym (mul-suc k (length xs))

length_map : {X Y : Type 0} → (f : X → Y) (xs : List X) → length (map f xs) ≡ length xs
length_map f [] = refl
length_map f (x ∷ xs) = ap suc (length_map f xs)

length_frame : (channels : List (List Sample)) (frame : ℕ) → length (frame_bytes channels frame) ≡ 2 * length channels
length_frame channels frame = length_all (λ channel. sample_bytes (slice_index_or channel frame silent)) 2 (λ channel. refl) channels

length_block : {F B : Type 0} → (setup : Setup) (block : Play F B) → length (block_bytes setup block) ≡ 2 * length setup.session.outs * setup.session.block
length_block setup block =
    let channels = map (channel_in setup block) setup.session.outs in
    length_all (frame_bytes channels) (2 * length channels) (length_frame channels) (range_with_len 0 setup.session.block)
    ∙ (λ i. 2 * length_map (channel_in setup block) setup.session.outs i * length-range_with_len 0 setup.session.block i)

abbrev done_in : {F B : Type 0} → Play F B → ℕ
done_in p = number_of (λ it. is_kind Done it.entry) (steps_of p)

one_more_block : (b : Bool) (k n : ℕ) (sound block : List ℕ) → length sound ≡ k * n → length block ≡ k → length (cond b (sound ++ block) sound) ≡ k * one_more b n
one_more_block true k n sound block rest whole = length-append sound block ∙ (λ i. rest i + whole i) ∙ sym (mul-suc k n)
one_more_block false k n sound block rest whole = rest

pub sound_is_whole : {F B : Type 0} → SoundIsWhole F B
sound_is_whole setup [] = sym (mul-zero (2 * length setup.session.outs * setup.session.block))
sound_is_whole setup (x ∷ p) =
    let block = in_block (doings Audio p) in
    one_more_block (is_kind Done x.step.entry) (2 * length setup.session.outs * setup.session.block) (done_in p) (sound_of setup p) (block_bytes setup block)
    (sound_is_whole setup p) (length_block setup block)

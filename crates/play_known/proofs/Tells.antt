-- The values of entries outside of calls.
use Rattle.std.proofs.Common.{◌≡◌, ℕ, zero, suc, ◌==◌, Bool, true, false, not, ◌&&◌, ◌||◌, List, [], ◌∷◌, drop, slice_index_or, refl, sym, ap, ◌∙◌, eqb-true, true≢false}
use Rattle.step_law.specs.declared.actor.Actor.TheVariants.{Audio}
use Rattle.step_law.specs.declared.entry.Kind.{Kind}
use Rattle.step_law.specs.declared.entry.Kind.TheVariants.{Block, Look, Take, Send, Full, Long, Done, Stop, Begin, End, Beat, Join, Late, Last}
use Rattle.step_law.specs.Actor.{actor_at}
use Rattle.step_law.specs.Ring.{ring_at}
use Rattle.record_law.specs.Entries.{kind_number, is_by}
use Rattle.record_law.specs.History.{count}
use Rattle.record_law.specs.Message.{Message, Step}
use Rattle.record_law.specs.Message.Message.{nothing, body, notice, input, lend, part, give, save, restore, answer, close}
use Rattle.session_play.specs.Hand.{Hand, hand_at}
use Rattle.session_play.specs.Looking.{steps_of, doings, bodies_on}
use Rattle.session_play.specs.Notices.{is_notice, untold}
use Rattle.session_play.specs.Playing.{value_by, sent_value, taken_value, first_told}
use Rattle.session_play.specs.Run.{Run}
use Rattle.session_play.specs.Value.{blank, carried, Play}
use Rattle.session_play.specs.ValueRule.{is_long, is_none, sends_so, tells_so, value_keeps}
use Rattle.play_known.specs.Known.{waiting_on}
use Rattle.play_known.specs.Telling.{brought, is_body, TakesBringTheOldest, NoticesAreTold, NoticesKeepValues, PlainHaveNoValue, OthersKeepValues}

-- ---- takes

oldest : (place : ℕ) (sent : List (List ℕ)) → slice_index_or sent place [] ≡ slice_index_or (drop place sent) 0 []
oldest zero sent = refl
oldest (suc place) [] = refl
oldest (suc place) (x ∷ sent) = oldest place sent

brought_by : {F B : Type 0} → (about : Message) (hand : Hand F B) (waiting : List (List ℕ)) → hand.body ≡ slice_index_or waiting 0 []
    → taken_value about hand ≡ brought about waiting
brought_by body hand waiting is = ap carried is
brought_by (notice inst) hand waiting is = ap carried is
brought_by nothing hand waiting is = refl
brought_by (input action) hand waiting is = refl
brought_by (lend inst) hand waiting is = refl
brought_by (part inst) hand waiting is = refl
brought_by (give inst) hand waiting is = refl
brought_by (save action inst) hand waiting is = refl
brought_by (restore action inst) hand waiting is = refl
brought_by (answer action) hand waiting is = refl
brought_by close hand waiting is = refl

pub takes_bring_the_oldest : {F B : Type 0} → TakesBringTheOldest F B
takes_bring_the_oldest run names p x take =
    let hand = hand_at run.held p x in
    let ring = ring_at x.entry.a in
    ap (λ kind. value_by run kind x hand) take ∙ brought_by x.about hand (waiting_on ring p) (oldest (count Take ring (steps_of p)) (bodies_on ring p))

-- ---- notices

-- audio's own moments are at hand for its entries
own_audio : {F B : Type 0} → (p : Play F B) (x : Step) → is_by Audio x.entry ≡ true → doings (actor_at x.entry.actor) p ≡ doings Audio p
own_audio p x by_audio = ap (λ n. doings (actor_at n) p) (eqb-true x.entry.actor 0 by_audio)

abbrev tries : Kind → Bool
tries kind = (kind_number kind == 3) || (kind_number kind == 4) || (kind_number kind == 5)

told_by_kind : {F B : Type 0} → (run : Run F B) (kind : Kind) (x : Step) (hand : Hand F B) (inst : ℕ) → tries kind ≡ true → x.about ≡ notice inst
    → value_by run kind x hand ≡ first_told (untold run.setup hand.own)
told_by_kind run Send x hand inst try told = ap (λ about. sent_value run 0 about hand) told
told_by_kind run Full x hand inst try told = ap (λ about. sent_value run 2 about hand) told
told_by_kind run Long x hand inst try told = ap (λ about. sent_value run 2 about hand) told
told_by_kind run Block x hand inst try told = absurd (true≢false (sym try))
told_by_kind run Look x hand inst try told = absurd (true≢false (sym try))
told_by_kind run Take x hand inst try told = absurd (true≢false (sym try))
told_by_kind run Done x hand inst try told = absurd (true≢false (sym try))
told_by_kind run Stop x hand inst try told = absurd (true≢false (sym try))
told_by_kind run Begin x hand inst try told = absurd (true≢false (sym try))
told_by_kind run End x hand inst try told = absurd (true≢false (sym try))
told_by_kind run Beat x hand inst try told = absurd (true≢false (sym try))
told_by_kind run Join x hand inst try told = absurd (true≢false (sym try))
told_by_kind run Late x hand inst try told = absurd (true≢false (sym try))
told_by_kind run Last x hand inst try told = absurd (true≢false (sym try))

pub notices_are_told : {F B : Type 0} → NoticesAreTold F B
notices_are_told run names p x inst by_audio try told =
    told_by_kind run x.entry.kind x (hand_at run.held p x) inst try told ∙ ap (λ own. first_told (untold run.setup own)) (own_audio p x by_audio)

same_length : (long : Bool) (told : List ℕ) (later : List (List ℕ)) → is_long told ≡ long → tells_so long (told ∷ later) ≡ true
same_length true told later is = is
same_length false told later is = ap not is

keeps_by_kind : {F B : Type 0} → (run : Run F B) (kind : Kind) (x : Step) (own : Play F B) (inst : ℕ) (told : List ℕ) (later : List (List ℕ))
    → tries kind ≡ true → x.about ≡ notice inst → untold run.setup own ≡ told ∷ later → is_long told ≡ (kind_number kind == 5)
    → value_keeps run kind x own ≡ true
keeps_by_kind run Send x own inst told later try about left long =
    ap (λ it. sends_so run false it own) about ∙ ap (tells_so false) left ∙ same_length false told later long
keeps_by_kind run Full x own inst told later try about left long =
    ap (λ it. sends_so run false it own) about ∙ ap (tells_so false) left ∙ same_length false told later long
keeps_by_kind run Long x own inst told later try about left long =
    ap (λ it. sends_so run true it own) about ∙ ap (tells_so true) left ∙ same_length true told later long
keeps_by_kind run Block x own inst told later try about left long = refl
keeps_by_kind run Look x own inst told later try about left long = refl
keeps_by_kind run Take x own inst told later try about left long = refl
keeps_by_kind run Done x own inst told later try about left long = refl
keeps_by_kind run Stop x own inst told later try about left long = refl
keeps_by_kind run Begin x own inst told later try about left long = refl
keeps_by_kind run End x own inst told later try about left long = absurd (true≢false (sym try))
keeps_by_kind run Beat x own inst told later try about left long = refl
keeps_by_kind run Join x own inst told later try about left long = refl
keeps_by_kind run Late x own inst told later try about left long = refl
keeps_by_kind run Last x own inst told later try about left long = refl

or_true : (a b : Bool) → b ≡ true → (a || b) ≡ true
or_true true b is = refl
or_true false b is = is

or_first : (a b : Bool) → a ≡ true → (a || b) ≡ true
or_first a b is = ap (λ it. it || b) is

and_both : (a b : Bool) → a ≡ true → b ≡ true → (a && b) ≡ true
and_both a b is also = ap (λ it. it && b) is ∙ also

pub notices_keep_values : {F B : Type 0} → NoticesKeepValues F B
notices_keep_values run names p x inst told later by_audio try about left long =
    let own = doings (actor_at x.entry.actor) p in
    let here : untold run.setup own ≡ told ∷ later = ap (untold run.setup) (own_audio p x by_audio) ∙ left in
    and_both (value_keeps run x.entry.kind x own) (not (is_by Audio x.entry) || is_notice x.about || is_none (untold run.setup own))
    (keeps_by_kind run x.entry.kind x own inst told later try about here long)
    (or_first (not (is_by Audio x.entry) || is_notice x.about) (is_none (untold run.setup own))
    (or_true (not (is_by Audio x.entry)) (is_notice x.about) (ap is_notice about)))

-- ---- other entries

-- of those that are about no body and no notice
sent_blank : {F B : Type 0} → (run : Run F B) (status : ℕ) (about : Message) (hand : Hand F B) → not (is_body about || is_notice about) ≡ true
    → sent_value run status about hand ≡ blank
sent_blank run status body hand is = absurd (true≢false (sym is))
sent_blank run status (notice inst) hand is = absurd (true≢false (sym is))
sent_blank run status nothing hand is = refl
sent_blank run status (input action) hand is = refl
sent_blank run status (lend inst) hand is = refl
sent_blank run status (part inst) hand is = refl
sent_blank run status (give inst) hand is = refl
sent_blank run status (save action inst) hand is = refl
sent_blank run status (restore action inst) hand is = refl
sent_blank run status (answer action) hand is = refl
sent_blank run status close hand is = refl

abbrev plain_by : Kind → Message → Bool
plain_by kind about = not ((kind_number kind == 8) || (kind_number kind == 9) || (kind_number kind == 2) || is_body about || is_notice about)

blank_by : {F B : Type 0} → (run : Run F B) (kind : Kind) (x : Step) (hand : Hand F B) → plain_by kind x.about ≡ true → value_by run kind x hand ≡ blank
blank_by run Send x hand is = sent_blank run 0 x.about hand is
blank_by run Full x hand is = sent_blank run 2 x.about hand is
blank_by run Long x hand is = sent_blank run 2 x.about hand is
blank_by run Begin x hand is = absurd (true≢false (sym is))
blank_by run End x hand is = absurd (true≢false (sym is))
blank_by run Take x hand is = absurd (true≢false (sym is))
blank_by run Block x hand is = refl
blank_by run Look x hand is = refl
blank_by run Done x hand is = refl
blank_by run Stop x hand is = refl
blank_by run Beat x hand is = refl
blank_by run Join x hand is = refl
blank_by run Late x hand is = refl
blank_by run Last x hand is = refl

pub plain_have_no_value : {F B : Type 0} → PlainHaveNoValue F B
plain_have_no_value run p x is = blank_by run x.entry.kind x (hand_at run.held p x) is

sends_others : {F B : Type 0} → (run : Run F B) (long : Bool) (about : Message) (own : Play F B) → not (is_body about || is_notice about) ≡ true
    → sends_so run long about own ≡ true
sends_others run long body own is = absurd (true≢false (sym is))
sends_others run long (notice inst) own is = absurd (true≢false (sym is))
sends_others run long nothing own is = refl
sends_others run long (input action) own is = refl
sends_others run long (lend inst) own is = refl
sends_others run long (part inst) own is = refl
sends_others run long (give inst) own is = refl
sends_others run long (save action inst) own is = refl
sends_others run long (restore action inst) own is = refl
sends_others run long (answer action) own is = refl
sends_others run long close own is = refl

others_by : {F B : Type 0} → (run : Run F B) (kind : Kind) (x : Step) (own : Play F B) → ((kind_number kind == 2) || plain_by kind x.about) ≡ true
    → value_keeps run kind x own ≡ true
others_by run Send x own is = sends_others run false x.about own is
others_by run Full x own is = sends_others run false x.about own is
others_by run Long x own is = sends_others run true x.about own is
others_by run End x own is = absurd (true≢false (sym is))
others_by run Begin x own is = refl
others_by run Take x own is = refl
others_by run Block x own is = refl
others_by run Look x own is = refl
others_by run Done x own is = refl
others_by run Stop x own is = refl
others_by run Beat x own is = refl
others_by run Join x own is = refl
others_by run Late x own is = refl
others_by run Last x own is = refl

told_all : (audio about : Bool) (left : List (List ℕ)) → (audio ≡ true → left ≡ []) → (not audio || about || is_none left) ≡ true
told_all false about left told = refl
told_all true about left told = or_true about (is_none left) (ap is_none (told refl))

pub others_keep_values : {F B : Type 0} → OthersKeepValues F B
others_keep_values run names p x is told =
    let own = doings (actor_at x.entry.actor) p in
    and_both (value_keeps run x.entry.kind x own) (not (is_by Audio x.entry) || is_notice x.about || is_none (untold run.setup own))
    (others_by run x.entry.kind x own is)
    (told_all (is_by Audio x.entry) (is_notice x.about) (untold run.setup own)
    (λ by_audio. ap (untold run.setup) (own_audio p x by_audio) ∙ told by_audio))

-- Worked records with actions, by computation.
use Rattle.std.proofs.Common.{ℕ, [], ◌∷◌, ◌++◌, refl}
use Rattle.std.specs.Prelude.{codes}
use Rattle.std.specs.Fmt.{digits}
use Rattle.base64.specs.Rfc4648.{encode_symbols}
use Rattle.urid_map.specs.Numbers.{with_uris}
use Rattle.atom_core.specs.Place.{number_at, wide_at}
use Rattle.atom_core.specs.Spelling.{u32, i32, i64}
use Rattle.session_play.specs.Run.{Run}
use Rattle.one_thread.proofs.Tests.{tests_say}
use Rattle.worked_plays.specs.Codes as plain
use Rattle.worked_plays.specs.Stores as stores
use Rattle.worked_plays.specs.Scenes.{setting, set_to, setting_steps, late_steps, keeping, keep_decl, tank_decl, restore_at, save_at, state_with, restoring_steps, restored_late_steps, saving_steps, messaging, message_steps}
use Rattle.worked_plays.specs.Shows.{PlaysAs, Saves, times, setting_summary, late_summary, restoring_summary, restored_late_summary, saving_summary, message_summary, states_text}

abbrev pub two_sets : Run plain.Front plain.Back
two_sets = setting 3 1 (set_to 0 8388608 ∷ set_to 0 4194304 ∷ [])

abbrev pub late_set : Run plain.Front plain.Back
late_set = setting 1 8 (set_to 1 0 ∷ [])

abbrev pub restore_in : ℕ → Run stores.Front stores.Back
restore_in block = keeping 4 (codes "k") keep_decl (restore_at block ∷ []) (state_with 4194304 ∷ [])

abbrev pub saves_around : Run stores.Front stores.Back
saves_around = keeping 3 (codes "t") tank_decl (save_at 0 ∷ restore_at 1 ∷ save_at 2 ∷ []) (state_with 8388608 ∷ [])

pub in_turn : PlaysAs two_sets setting_steps (0 ∷ 64 ∷ 0 ∷ 32 ∷ 0 ∷ 32 ∷ []) setting_summary
unfolding digits with_uris
in_turn = record { one_thread = tests_say two_sets setting_steps refl refl; heard = refl; told = refl }

pub too_late : PlaysAs late_set late_steps (times 2 (0 ∷ [])) late_summary
unfolding digits with_uris
too_late = record { one_thread = tests_say late_set late_steps refl refl; heard = refl; told = refl }

pub between : PlaysAs (restore_in 2) restoring_steps (times 12 (0 ∷ []) ++ times 2 (0 ∷ 32 ∷ [])) restoring_summary
unfolding digits with_uris number_at wide_at u32 i32 i64
between = record { one_thread = tests_say (restore_in 2) restoring_steps refl refl; heard = refl; told = refl }

pub afterwards : PlaysAs (restore_in 4) restored_late_steps (times 16 (0 ∷ [])) restored_late_summary
unfolding digits with_uris number_at wide_at u32 i32 i64
afterwards = record { one_thread = tests_say (restore_in 4) restored_late_steps refl refl; heard = refl; told = refl }

pub saving : PlaysAs saves_around saving_steps (times 8 (0 ∷ []) ++ times 2 (0 ∷ 64 ∷ [])) saving_summary
unfolding digits with_uris number_at wide_at u32 i32 i64
saving = record { one_thread = tests_say saves_around saving_steps refl refl; heard = refl; told = refl }

pub saved : Saves saves_around saving_steps states_text
unfolding digits encode_symbols with_uris number_at wide_at u32 i32 i64
saved = refl

pub answered : PlaysAs messaging message_steps (times 4 (0 ∷ 32 ∷ [])) message_summary
unfolding digits with_uris number_at wide_at u32 i32 i64
answered = record { one_thread = tests_say messaging message_steps refl refl; heard = refl; told = refl }

-- The features and options that the host supports.
use Rattle.std.specs.Prelude.{ℕ, Bool, ◌&&◌, ◌||◌, List, [], ◌∷◌}
use Rattle.std.specs.Int.{is_power_of_two}
use Rattle.std.specs.List.{list_any}
use Rattle.triple_store.specs.declared.term.Term.{Term}
use Rattle.vocabulary.specs.declared.word.Word.{Word}
use Rattle.vocabulary.specs.declared.word.Word.TheVariants.{UridMap, UridUnmap, OptionsOptions, WorkSchedule, StateThreadSafeRestore, Lv2HardRtCapable, Lv2InPlaceBroken, Lv2IsLive, BufszBoundedBlockLength, BufszFixedBlockLength, BufszPowerOf2BlockLength, BufszMaxBlockLength, BufszMinBlockLength}
use Rattle.plugin_decl.specs.Naming.{names}

-- a term is one of these words
abbrev pub is_among : List Word → Term → Bool
is_among words term = list_any (λ word. names word term) words

-- supported whatever the block's length
abbrev pub features : List Word
features = UridMap ∷ UridUnmap ∷ OptionsOptions ∷ WorkSchedule ∷ StateThreadSafeRestore ∷ Lv2HardRtCapable ∷ Lv2InPlaceBroken ∷ Lv2IsLive ∷ BufszBoundedBlockLength ∷ BufszFixedBlockLength ∷ []

-- a feature is supported for blocks of this length
unfoldable pub is_supported : ℕ → Term → Bool
is_supported block feature = is_among features feature || (is_power_of_two block && names BufszPowerOf2BlockLength feature)

-- an option is one that instances are given
unfoldable pub is_given : Term → Bool
is_given option = names BufszMaxBlockLength option || names BufszMinBlockLength option

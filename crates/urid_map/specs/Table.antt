-- The URIs that are held from the start.
use Rattle.std.specs.Prelude.{ℕ, List, [], ◌∷◌, map}
use Rattle.vocabulary.specs.Words.{iri_of}
use Rattle.vocabulary.specs.declared.word.Word.{Word}
use Rattle.vocabulary.specs.declared.word.Word.TheVariants.{AtomInt, AtomLong, AtomBool, AtomUrid, AtomString, AtomLiteral, AtomVector, AtomTuple, AtomObject, AtomSequence, AtomChunk, AtomFloat, AtomDouble, FxFixed, PatchGet, PatchSet, PatchPut, PatchProperty, PatchValue, PatchSubject, PatchBody, BufszMaxBlockLength, BufszMinBlockLength, AtomUri, AtomPath}

-- numbers 1 to 25: the kinds of atoms, the words of patch messages, and the options of block lengths
abbrev pub initial_words : List Word
initial_words =
    AtomInt
    ∷ AtomLong
    ∷ AtomBool
    ∷ AtomUrid
    ∷ AtomString
    ∷ AtomLiteral
    ∷ AtomVector
    ∷ AtomTuple
    ∷ AtomObject
    ∷ AtomSequence
    ∷ AtomChunk
    ∷ AtomFloat
    ∷ AtomDouble
    ∷ FxFixed
    ∷ PatchGet
    ∷ PatchSet
    ∷ PatchPut
    ∷ PatchProperty
    ∷ PatchValue
    ∷ PatchSubject
    ∷ PatchBody
    ∷ BufszMaxBlockLength
    ∷ BufszMinBlockLength
    ∷ AtomUri
    ∷ AtomPath
    ∷ []

abbrev pub initial : List (List ℕ)
initial = map iri_of initial_words

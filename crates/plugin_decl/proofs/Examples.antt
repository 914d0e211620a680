-- The definitions at worked examples.
use Rattle.std.proofs.Common.{◌≡◌, ℕ, true, false, List, [], ◌∷◌, Some, None, pos, negsuc, refl}
use Rattle.std.specs.Prelude.{codes}
use Rattle.triple_store.specs.declared.term.Term.{Term}
use Rattle.triple_store.specs.declared.term.Term.TheVariants.{Iri, Blank, Literal}
use Rattle.triple_store.specs.declared.term.Triple.{Triple}
use Rattle.vocabulary.specs.declared.word.Word.{Word}
use Rattle.vocabulary.specs.declared.word.Word.TheVariants.{RdfType, Lv2Plugin, Lv2Port, Lv2Index, Lv2Symbol}
use Rattle.vocabulary.specs.Words.{iri_of}
use Rattle.plugin_decl.specs.Objects.{objects_of, has}
use Rattle.plugin_decl.specs.Values.{integer_of, natural_in, name_in}
use Rattle.plugin_decl.specs.Ports.{index_of, symbol_of, buffer_size}
use Rattle.plugin_decl.specs.Declaration.{ports_of}
use Rattle.plugin_decl.specs.PortRules.{is_symbol, lacks_symbol}
use Rattle.plugin_decl.specs.Rules.{breaks}
use Rattle.plugin_decl.specs.Rules.Rule.{no_plugin, bad_index, same_index, gap, bad_symbol}

integer-zeros : integer_of (codes "-000") ≡ Some (pos 0)
integer-zeros = refl

integer-plus : integer_of (codes "+03") ≡ Some (pos 3)
integer-plus = refl

integer-minus : integer_of (codes "-3") ≡ Some (negsuc 2)
integer-minus = refl

integer-dot : integer_of (codes "3.") ≡ None
integer-dot = refl

symbol-digit : is_symbol (codes "2in") ≡ false
symbol-digit = refl

symbol-long : is_symbol (codes "_in2") ≡ true
symbol-long = refl

size-least : buffer_size 1 ≡ 4096
size-least = refl

size-up : buffer_size 5001 ≡ 5008
size-up = refl

-- ---- triples

plugin : Term
plugin = Iri (codes "urn:p")

-- the subject s has the object o
says : Term → Word → Term → Triple
says s p o = record { s = s; p = Iri (iri_of p); o = o }

text : List ℕ → Term
text t = Literal t [] []

-- a plug-in with ports of two indexes, the later one first
two_ports : List ℕ → List ℕ → List Triple
two_ports a b =
    says plugin RdfType (Iri (iri_of Lv2Plugin)) ∷ says plugin Lv2Port (Blank 0) ∷ says (Blank 0) Lv2Index (text a) ∷ says (Blank 0) Lv2Symbol (text (codes "2in"))
    ∷ says plugin Lv2Port (Blank 1) ∷ says (Blank 1) Lv2Index (text b) ∷ says (Blank 1) Lv2Symbol (text (codes "in")) ∷ []

is-plugin : breaks (two_ports (codes "0") (codes "1")) plugin 256 no_plugin 0 ≡ false
unfolding breaks two_ports says text plugin has objects_of iri_of
is-plugin = refl

order-turned : ports_of (two_ports (codes "1") (codes "0")) plugin ≡ Blank 1 ∷ Blank 0 ∷ []
unfolding ports_of two_ports says text plugin index_of natural_in objects_of iri_of
order-turned = refl

index-out : breaks (two_ports (codes "0") (codes "256")) plugin 256 bad_index 1 ≡ true
unfolding breaks two_ports says text plugin index_of natural_in objects_of iri_of
index-out = refl

index-same : breaks (two_ports (codes "0") (codes "0")) plugin 256 same_index 0 ≡ true
unfolding breaks two_ports says text plugin index_of natural_in objects_of iri_of
index-same = refl

index-gap : breaks (two_ports (codes "0") (codes "2")) plugin 256 gap 1 ≡ true
unfolding breaks two_ports says text plugin index_of natural_in objects_of iri_of
index-gap = refl

symbol-bad : breaks (two_ports (codes "1") (codes "0")) plugin 256 bad_symbol 1 ≡ true
unfolding breaks ports_of two_ports says text plugin lacks_symbol symbol_of index_of natural_in objects_of iri_of
symbol-bad = refl

-- a name without a tag counts before one with a tag
name-untagged : name_in (Literal (codes "Pegel") [] (codes "de") ∷ text (codes "Gain") ∷ []) ≡ Some (codes "Gain")
unfolding name_in text
name-untagged = refl

use Rattle.std.proofs.Common.{[], ◌∷◌}
use Rattle.std.specs.Option.{option_copied}
use Rattle.vocabulary.specs.declared.word.Word.TheVariants.{RdfType, Lv2Index, Lv2Symbol, Lv2Name, Lv2InputPort, Lv2OutputPort, Lv2AudioPort, Lv2CvPort, Lv2ControlPort, Lv2PortProperty, Lv2ConnectionOptional, Lv2Designation, Lv2Control, Lv2Default, Lv2Minimum, Lv2Maximum, AtomAtomPort, AtomSupports, PatchMessage, RszMinimumSize}
use Rattle.plugin_decl.specs.Naming.{names}
use Rattle.plugin_decl.specs.PortFacts.{told}
use Rattle.plugin_decl.specs.Values.{is_literal, is_untagged}
use Rattle.plugin_decl.proofs.PortFacts.{next-two, next-any, next-found}
use Rattle.plugin_decl.proofs.port_facts.PortFacts.with_row.Goals as goal

pub returns : goal.returns
returns c = λ objects h. record {
  index = next-two c.args.self.index c.with_row-index.result (objects Lv2Index) (told (c.args.row.now ∷ []) Lv2Index) c.with_row-index.ensures h.index;
  symbol = next-two c.args.self.symbol c.with_row-symbol.result (objects Lv2Symbol) (told (c.args.row.now ∷ []) Lv2Symbol) c.with_row-symbol.ensures h.symbol;
  size = next-two c.args.self.size c.with_row-size.result (objects RszMinimumSize) (told (c.args.row.now ∷ []) RszMinimumSize) c.with_row-size.ensures h.size;
  default = next-two c.args.self.bounds.default c.with_row-bounds.result.default (objects Lv2Default) (told (c.args.row.now ∷ []) Lv2Default) c.with_row-bounds.ensures.default h.default;
  minimum = next-two c.args.self.bounds.minimum c.with_row-bounds.result.minimum (objects Lv2Minimum) (told (c.args.row.now ∷ []) Lv2Minimum) c.with_row-bounds.ensures.minimum h.minimum;
  maximum = next-two c.args.self.bounds.maximum c.with_row-bounds.result.maximum (objects Lv2Maximum) (told (c.args.row.now ∷ []) Lv2Maximum) c.with_row-bounds.ensures.maximum h.maximum;
  untagged = next-found is_untagged (option_copied c.args.self.name.untagged) (option_copied c.with_row-name.result.untagged) (objects Lv2Name) (told (c.args.row.now ∷ []) Lv2Name) c.with_row-name.ensures.untagged h.untagged;
  literal = next-found is_literal (option_copied c.args.self.name.literal) (option_copied c.with_row-name.result.literal) (objects Lv2Name) (told (c.args.row.now ∷ []) Lv2Name) c.with_row-name.ensures.literal h.literal;
  input = next-any (names Lv2InputPort) c.args.self.classes.input c.with_row-classes.result.input (objects RdfType) (told (c.args.row.now ∷ []) RdfType) c.with_row-classes.ensures.input h.input;
  output = next-any (names Lv2OutputPort) c.args.self.classes.output c.with_row-classes.result.output (objects RdfType) (told (c.args.row.now ∷ []) RdfType) c.with_row-classes.ensures.output h.output;
  audio = next-any (names Lv2AudioPort) c.args.self.classes.audio c.with_row-classes.result.audio (objects RdfType) (told (c.args.row.now ∷ []) RdfType) c.with_row-classes.ensures.audio h.audio;
  cv = next-any (names Lv2CvPort) c.args.self.classes.cv c.with_row-classes.result.cv (objects RdfType) (told (c.args.row.now ∷ []) RdfType) c.with_row-classes.ensures.cv h.cv;
  control = next-any (names Lv2ControlPort) c.args.self.classes.control c.with_row-classes.result.control (objects RdfType) (told (c.args.row.now ∷ []) RdfType) c.with_row-classes.ensures.control h.control;
  atom = next-any (names AtomAtomPort) c.args.self.classes.atom c.with_row-classes.result.atom (objects RdfType) (told (c.args.row.now ∷ []) RdfType) c.with_row-classes.ensures.atom h.atom;
  optional = next-any (names Lv2ConnectionOptional) c.args.self.uses.optional c.with_row-uses.result.optional (objects Lv2PortProperty) (told (c.args.row.now ∷ []) Lv2PortProperty) c.with_row-uses.ensures.optional h.optional;
  designated = next-any (names Lv2Control) c.args.self.uses.control c.with_row-uses.result.control (objects Lv2Designation) (told (c.args.row.now ∷ []) Lv2Designation) c.with_row-uses.ensures.control h.designated;
  speaking = next-any (names PatchMessage) c.args.self.uses.patch c.with_row-uses.result.patch (objects AtomSupports) (told (c.args.row.now ∷ []) AtomSupports) c.with_row-uses.ensures.patch h.speaking;
}

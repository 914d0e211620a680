-- What is declared of a plug-in, as lines of text.
use Rattle.std.specs.Prelude.{ℕ, Bool, true, false, List, ◌++◌, flat_map, codes, decimal}
use Rattle.plugin_decl.specs.declared.declaration.Decl.{Decl}
use Rattle.plugin_decl.specs.declared.declaration.Port.{Port}
use Rattle.plugin_decl.specs.declared.declaration.PortKind.{PortKind}
use Rattle.plugin_decl.specs.declared.declaration.PortKind.TheVariants.{Audio, Cv, Control, Atom, Unsupported}

-- whether a port is an input
abbrev pub direction_text : Bool → List ℕ
direction_text true = codes "input"
direction_text false = codes "output"

-- the class of a port
abbrev pub kind_text : PortKind → List ℕ
kind_text Audio = codes "audio"
kind_text Cv = codes "cv"
kind_text Control = codes "control"
kind_text Atom = codes "atom"
kind_text Unsupported = codes "unsupported"

-- which way data goes through a port, and of which class
abbrev pub flow_text : Port → List ℕ
flow_text p = codes " " ++ (direction_text p.input ++ (codes " " ++ kind_text p.kind))

-- a port: its index, its symbol, its direction and its class
abbrev pub port_line : Port → List ℕ
port_line p = codes "port " ++ (decimal p.index ++ (codes " " ++ (p.symbol ++ (flow_text p ++ codes "\n"))))

-- a plug-in: its URI, its minor and its micro version
abbrev pub plugin_line : Decl → List ℕ
plugin_line d = codes "plugin " ++ (d.uri ++ (codes " " ++ (decimal d.minor ++ (codes " " ++ (decimal d.micro ++ codes "\n")))))

-- the line of a plug-in, and those of its ports, which a declaration has in order of index
abbrev pub plugin_lines : Decl → List ℕ
plugin_lines d = plugin_line d ++ flat_map port_line d.ports

-- how many plug-ins there are
abbrev pub count_line : ℕ → List ℕ
count_line count = codes "plugins " ++ (decimal count ++ codes "\n")

-- The namespaces: each a name after what all IRIs of the namespace begin with.
use Rattle.std.specs.Prelude.{ℕ, List, ◌++◌, codes}

-- RDF 1.1, section 1.4
abbrev pub rdf : List ℕ → List ℕ
rdf name = codes "http://www.w3.org/1999/02/22-rdf-syntax-ns#" ++ name

-- RDF Schema 1.1, section 1
abbrev pub rdfs : List ℕ → List ℕ
rdfs name = codes "http://www.w3.org/2000/01/rdf-schema#" ++ name

-- the datatypes of XML Schema: RDF 1.1, section 5.1
abbrev pub xsd : List ℕ → List ℕ
xsd name = codes "http://www.w3.org/2001/XMLSchema#" ++ name

-- the description of a project
abbrev pub doap : List ℕ → List ℕ
doap name = codes "http://usefulinc.com/ns/doap#" ++ name

-- LV2 core
abbrev pub lv2 : List ℕ → List ℕ
lv2 name = codes "http://lv2plug.in/ns/lv2core#" ++ name

-- what the namespaces of LV2's extensions have in common, and each of them
abbrev pub ext : List ℕ → List ℕ
ext name = codes "http://lv2plug.in/ns/ext/" ++ name

abbrev pub atom : List ℕ → List ℕ
atom name = ext (codes "atom#" ++ name)

abbrev pub work : List ℕ → List ℕ
work name = ext (codes "worker#" ++ name)

abbrev pub state : List ℕ → List ℕ
state name = ext (codes "state#" ++ name)

abbrev pub patch : List ℕ → List ℕ
patch name = ext (codes "patch#" ++ name)

abbrev pub urid : List ℕ → List ℕ
urid name = ext (codes "urid#" ++ name)

abbrev pub options : List ℕ → List ℕ
options name = ext (codes "options#" ++ name)

abbrev pub bufsz : List ℕ → List ℕ
bufsz name = ext (codes "buf-size#" ++ name)

abbrev pub rsz : List ℕ → List ℕ
rsz name = ext (codes "resize-port#" ++ name)

abbrev pub pset : List ℕ → List ℕ
pset name = ext (codes "presets#" ++ name)

-- this host's own
abbrev pub fx : List ℕ → List ℕ
fx name = codes "urn:lv2fx:" ++ name

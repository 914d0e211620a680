-- The statuses of `check BUNDLE`, and the lines that are put with them.
use Rattle.std.specs.Prelude.{ℕ, List, ◌++◌, codes, decimal}
use Rattle.turtle_lex.specs.declared.fault.LexFault.TheVariants as lex
use Rattle.turtle_read.specs.declared.fault.TurtleFault.{TurtleFault}
use Rattle.turtle_read.specs.declared.fault.TurtleFault.TheVariants as turtle
use Rattle.session_load.specs.declared.fault.LoadFault.{LoadFault}
use Rattle.session_load.specs.declared.fault.LoadFault.TheVariants.{Missing, ReadFailed, TooLong, Turtle, NoMemory}
use Rattle.host_main.specs.Status.{no_memory_line}
use Rattle.host_main.specs.declared.checking.refusal.CheckRefusal.{CheckRefusal}
use Rattle.host_main.specs.declared.checking.refusal.CheckRefusal.TheVariants.{Load, Undeclared, WriteFailed}

abbrev pub check_status : CheckRefusal → ℕ
check_status (Load (Missing path)) = 2
check_status (Load (ReadFailed path)) = 3
check_status (Load (TooLong path)) = 9
check_status (Load (Turtle path turtle.NoMemory)) = 14
check_status (Load (Turtle path fault)) = 5
check_status (Load NoMemory) = 14
check_status (Undeclared uri rule) = 6
check_status WriteFailed = 4

-- a file of the bundle is no document: at which byte, and what is wrong there
abbrev pub turtle_at : List ℕ → ℕ → List ℕ → List ℕ
turtle_at path at kind = codes "lv2fx: 5 turtle " ++ (path ++ (codes " at " ++ (decimal at ++ kind)))

abbrev pub turtle_line : List ℕ → TurtleFault → List ℕ
turtle_line path (turtle.Lex (lex.NotUtf8 at)) = turtle_at path at (codes " utf8\n")
turtle_line path (turtle.Lex (lex.Unclosed at)) = turtle_at path at (codes " unclosed\n")
turtle_line path (turtle.Lex (lex.BadByte at)) = turtle_at path at (codes " byte\n")
turtle_line path (turtle.Syntax at) = turtle_at path at (codes " syntax\n")
turtle_line path (turtle.NoPrefix at) = turtle_at path at (codes " prefix\n")
turtle_line path (turtle.BadIri at) = turtle_at path at (codes " iri\n")
turtle_line path (turtle.Depth at) = turtle_at path at (codes " depth\n")
turtle_line path (turtle.StoreFull at) = turtle_at path at (codes " full\n")
turtle_line path turtle.NoMemory = no_memory_line

-- a bundle can't be loaded
abbrev pub load_line : LoadFault → List ℕ
load_line (Missing path) = codes "lv2fx: 2 missing " ++ (path ++ codes "\n")
load_line (ReadFailed path) = codes "lv2fx: 3 read failed " ++ (path ++ codes "\n")
load_line (TooLong path) = codes "lv2fx: 9 limit file 16777216\n"
load_line (Turtle path fault) = turtle_line path fault
load_line NoMemory = no_memory_line

-- a plug-in's declaration breaks a rule
abbrev pub undeclared_line : List ℕ → List ℕ → List ℕ
undeclared_line uri rule = codes "lv2fx: 6 plugin " ++ (uri ++ (codes " " ++ (rule ++ codes "\n")))

-- the line of a refusal of `check BUNDLE`
abbrev pub check_line : CheckRefusal → List ℕ
check_line (Load fault) = load_line fault
check_line (Undeclared uri rule) = undeclared_line uri rule
check_line WriteFailed = codes "lv2fx: 4 write failed -\n"

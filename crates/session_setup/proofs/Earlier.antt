-- What is said of the bundles of a later vault is so of the first.
use Rattle.std.proofs.Common.{◌≡◌, ◌⊎◌, ℕ, ◌+◌, ◌<◌, List, [], ◌∷◌, ◌++◌, length, take, get_or, Option, Result, Ok, Err, refl, sym, subst, inl, inr}
use Rattle.lv_outside.specs.World.{VaultState}
use Rattle.triple_store.specs.declared.term.Triple.{Triple}
use Rattle.session_script.specs.declared.session.Session.{Session}
use Rattle.session_load.specs.Names.{manifest, files_named}
use Rattle.session_load.specs.Bundle.{IsLater, Place, place, Adds, IsRefused, StopsBehind, IsBundle, IsUnloaded}
use Rattle.session_load.specs.declared.fault.LoadFault.{LoadFault}
use Rattle.session_load.specs.declared.fault.LoadFault.TheVariants.{Missing, ReadFailed, TooLong, Turtle, NoMemory}
use Rattle.session_load.proofs.Loading.{all-earlier, refused-earlier}
use Rattle.session_setup.specs.declared.fault.SetupFault.{SetupFault}
use Rattle.session_setup.specs.declared.fault.SetupFault.TheVariants.{Load, Script, Undeclared, Graph}
use Rattle.session_setup.specs.Faults.{Told, IsCause, IsCountedFault, IsCounted}
use Rattle.session_setup.specs.declared.loaded.Loaded.{Loaded}
use Rattle.session_setup.specs.Loading.{Says, Reads, ReadsAll, Arranges, LoadsSession, LoadsBytes}
use Rattle.session_setup.proofs.Steps.{then-as, each-as, each-more}
use Rattle.session_setup.proofs.Causes.{cause-each}

adds-earlier : (v m : VaultState) (at : Place) (name : List ℕ) (before after : List Triple) → IsLater v m → Adds m at name before after → Adds v at name before after
adds-earlier v m at name before after h adds =
    let all = all-earlier v m at (name ∷ []) before after h (after, adds, refl) in subst (λ rows. Adds v at name before rows) (sym all.2) all.1

pub bundle-earlier : (v m : VaultState) (folder : List ℕ) (number : ℕ) (rows : List Triple) → IsLater v m → IsBundle m folder number rows
    → IsBundle v folder number rows
bundle-earlier v m folder number rows h b = record {
  first = b.first;
  named = adds-earlier v m (place number folder) manifest [] b.first h b.named;
  all = all-earlier v m (place number folder) (files_named number b.first) b.first rows h b.all;
}

behind-earlier : (v m v' : VaultState) (at : Place) (fault : LoadFault) → IsLater v m → StopsBehind m v' at fault → StopsBehind v v' at fault
behind-earlier v m v' at fault h s = record {
  first = s.first;
  named = adds-earlier v m at manifest [] s.first h s.named;
  stops = record {
    front = s.stops.front;
    name = s.stops.name;
    back = s.stops.back;
    order = s.stops.order;
    before = s.stops.before;
    read = all-earlier v m at s.stops.front s.first s.stops.before h s.stops.read;
    refused = refused-earlier v m v' at s.stops.name s.stops.before fault h s.stops.refused;
  };
}

stopped-earlier : (v m v' : VaultState) (at : Place) (fault : LoadFault) → IsLater v m
    → IsRefused m v' at manifest [] fault ⊎ StopsBehind m v' at fault → IsRefused v v' at manifest [] fault ⊎ StopsBehind v v' at fault
stopped-earlier v m v' at fault h (inl r) = inl (refused-earlier v m v' at manifest [] fault h r)
stopped-earlier v m v' at fault h (inr s) = inr (behind-earlier v m v' at fault h s)

unloaded-earlier : (v m v' : VaultState) (folder : List ℕ) (number : ℕ) (fault : LoadFault) → IsLater v m → IsUnloaded m v' folder number fault
    → IsUnloaded v v' folder number fault
unloaded-earlier v m v' folder number (Missing p) h x = stopped-earlier v m v' (place number folder) (Missing p) h x
unloaded-earlier v m v' folder number (ReadFailed p) h x = stopped-earlier v m v' (place number folder) (ReadFailed p) h x
unloaded-earlier v m v' folder number (TooLong p) h x = stopped-earlier v m v' (place number folder) (TooLong p) h x
unloaded-earlier v m v' folder number (Turtle p f) h x = stopped-earlier v m v' (place number folder) (Turtle p f) h x
unloaded-earlier v m v' folder number NoMemory h x = tt

-- why a bundle isn't loaded, as the first vault says it
pub bundle-cause : (v m v' : VaultState) (folder : List ℕ) (number : ℕ) (fault : LoadFault) → IsLater v m → IsUnloaded m v' folder number fault
    → IsCause (Told (Reads v number folder)) (Load fault)
bundle-cause v m v' folder number (Missing p) h x = inr ((λ e. cc), (v', stopped-earlier v m v' (place number folder) (Missing p) h x))
bundle-cause v m v' folder number (ReadFailed p) h x = inr ((λ e. cc), (v', stopped-earlier v m v' (place number folder) (ReadFailed p) h x))
bundle-cause v m v' folder number (TooLong p) h x = inr ((λ e. cc), (v', stopped-earlier v m v' (place number folder) (TooLong p) h x))
bundle-cause v m v' folder number (Turtle p f) h x = inr ((λ e. cc), (v', stopped-earlier v m v' (place number folder) (Turtle p f) h x))
bundle-cause v m v' folder number NoMemory h x = inl refl

-- the vault counts it
refused-counted : (m v' : VaultState) (at : Place) (name : List ℕ) (before : List Triple) (fault : LoadFault) → IsRefused m v' at name before fault
    → IsCountedFault m v' fault
refused-counted m v' at name before (Missing p) r = r.1
refused-counted m v' at name before (ReadFailed p) r = r.1
refused-counted m v' at name before (TooLong p) r = r.1
refused-counted m v' at name before (Turtle p f) r = tt
refused-counted m v' at name before NoMemory r = tt

stopped-counted : (m v' : VaultState) (at : Place) (fault : LoadFault) → IsRefused m v' at manifest [] fault ⊎ StopsBehind m v' at fault
    → IsCountedFault m v' fault
stopped-counted m v' at fault (inl r) = refused-counted m v' at manifest [] fault r
stopped-counted m v' at fault (inr s) = refused-counted m v' at s.stops.name s.stops.before fault s.stops.refused

pub bundle-counted : (m v' : VaultState) (folder : List ℕ) (number : ℕ) (fault : LoadFault) → IsUnloaded m v' folder number fault
    → IsCounted m v' (Load fault)
bundle-counted m v' folder number (Missing p) x = stopped-counted m v' (place number folder) (Missing p) x
bundle-counted m v' folder number (ReadFailed p) x = stopped-counted m v' (place number folder) (ReadFailed p) x
bundle-counted m v' folder number (TooLong p) x = stopped-counted m v' (place number folder) (TooLong p) x
bundle-counted m v' folder number (Turtle p f) x = tt
bundle-counted m v' folder number NoMemory x = tt

-- ---- one more bundle

pub reads-more : (v m : VaultState) (folders : List (List ℕ)) (k : ℕ) (folder : List ℕ) (bundles more : List (List Triple)) (rows : List Triple) → IsLater v m
    → k < length folders → folder ≡ get_or folders k folder → more ≡ bundles ++ rows ∷ [] → ReadsAll v (take k folders) (Ok bundles) → IsBundle m folder k rows
    → ReadsAll v (take (k + 1) folders) (Ok more)
reads-more v m folders k folder bundles more rows h within is e all b =
    subst (λ bs. ReadsAll v (take (k + 1) folders) (Ok bs)) (sym e)
    (each-more (λ number one. Told (Reads v number one)) folders k folder bundles rows within is all (bundle-earlier v m folder k rows h b))

pub reads-stop : (v m v' : VaultState) (folders : List (List ℕ)) (k : ℕ) (folder : List ℕ) (bundles : List (List Triple)) (fault : LoadFault) → IsLater v m
    → k < length folders → folder ≡ get_or folders k folder → ReadsAll v (take k folders) (Ok bundles) → IsUnloaded m v' folder k fault
    → IsCause (ReadsAll v folders) (Load fault)
reads-stop v m v' folders k folder bundles fault h within is all x =
    cause-each (λ number one. Told (Reads v number one)) folders k folder bundles (Load fault) within is all (bundle-cause v m v' folder k fault h x)

-- ---- a session that was read before its bundles

told-earlier : (v m : VaultState) (number : ℕ) (folder : List ℕ) (end : Result (List Triple) SetupFault) → IsLater v m → Told (Reads m number folder) end
    → Told (Reads v number folder) end
told-earlier v m number folder (Ok rows) h x = bundle-earlier v m folder number rows h x
told-earlier v m number folder (Err (Load fault)) h x = (x.0, (x.1.0, unloaded-earlier v m x.1.0 folder number fault h x.1.1))
told-earlier v m number folder (Err (Script fault)) h x = x
told-earlier v m number folder (Err (Undeclared uri fault)) h x = x
told-earlier v m number folder (Err (Graph fault names)) h x = x

session-earlier : (v m : VaultState) (text : List ℕ → Option (List ℕ)) (session : Session) (end : Result Loaded SetupFault) → IsLater v m
    → LoadsSession m text session end → LoadsSession v text session end
session-earlier v m text session end h x =
    then-as (ReadsAll m session.bundles) (ReadsAll v session.bundles) (λ bundles. Arranges text bundles session) (λ bundles. Arranges text bundles session) end
    (λ read. each-as (λ number folder. Told (Reads m number folder)) (λ number folder. Told (Reads v number folder))
    (λ number folder one. told-earlier v m number folder one h) 0 session.bundles read)
    (λ bundles one same. same) x

pub bytes-earlier : (v m : VaultState) (text : List ℕ → Option (List ℕ)) (bytes : List ℕ) (end : Result Loaded SetupFault) → IsLater v m
    → LoadsBytes m text bytes end → LoadsBytes v text bytes end
bytes-earlier v m text bytes end h x =
    then-as (Says bytes) (Says bytes) (LoadsSession m text) (LoadsSession v text) end (λ said same. same)
    (λ session one. session-earlier v m text session one h) x

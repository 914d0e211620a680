use Rattle.std.proofs.Common.{◌≡◌, [], refl, sym, ap, ◌∙◌}
use Rattle.std.specs.Prelude.{unwrap_or}
use Rattle.urid_map.specs.Numbers.{number_of}
use Rattle.state_file.specs.States.{kind_in, flags_in, bytes_in}
use Rattle.state_file.specs.Reading.{key_number}
use Rattle.state_file.proofs.Stored.{stored-as}
use Rattle.state_file.proofs.reader.store_property.Goals as goal

pub returns-in-Some-clause-rows : goal.returns-in-Some-clause-rows
returns-in-Some-clause-rows c =
    let store = c.args.store.now in
    let urids = c.args.urids.now in
    let property = c.args.property.now in
    let is-key : c.number-key.result ≡ key_number urids property = c.number-key.ensures.value ∙ ap (λ k. number_of urids (unwrap_or k [])) c.key.ensures.value in
    let is-kind : c.number-kind.result ≡ number_of urids (unwrap_or (kind_in store property) []) =
    c.number-kind.ensures.value ∙ ap (λ k. number_of urids (unwrap_or k [])) c.kind.ensures.value in
    let is-flags : c.unwrap_or-flags.result ≡ unwrap_or (flags_in store property) 0 = c.unwrap_or-flags.ensures ∙ ap (λ f. unwrap_or f 0) c.flags.ensures in
    let is-bytes : c.as_slice.result.now ≡ unwrap_or (bytes_in store property) [] = rw (sym c.in_ok-bytes.ensures) (rw c.in-Some.is c.as_slice.ensures.value) in
    (stored-as store urids property c.args.shelf.now c.store.new.self c.number-key.result c.number-kind.result c.unwrap_or-flags.result c.store.result c.as_slice.result.now
    c.requires.mapped is-key is-kind is-flags is-bytes c.number-key.ensures.mapped c.number-kind.ensures.mapped c.requires.ready.2 c.requires.room c.store.ensures.status
    c.store.ensures.stored).1

pub returns-in-None-clause-rows : goal.returns-in-None-clause-rows
returns-in-None-clause-rows c =
    let store = c.args.store.now in
    let urids = c.args.urids.now in
    let property = c.args.property.now in
    let is-key : c.number-key.result ≡ key_number urids property = c.number-key.ensures.value ∙ ap (λ k. number_of urids (unwrap_or k [])) c.key.ensures.value in
    let is-kind : c.number-kind.result ≡ number_of urids (unwrap_or (kind_in store property) []) =
    c.number-kind.ensures.value ∙ ap (λ k. number_of urids (unwrap_or k [])) c.kind.ensures.value in
    let is-flags : c.unwrap_or-flags.result ≡ unwrap_or (flags_in store property) 0 = c.unwrap_or-flags.ensures ∙ ap (λ f. unwrap_or f 0) c.flags.ensures in
    let is-bytes : [] ≡ unwrap_or (bytes_in store property) [] = rw (sym c.in_ok-bytes.ensures) (rw c.in-None.is refl) in
    (stored-as store urids property c.args.shelf.now c.store-in-None.new.self c.number-key.result c.number-kind.result c.unwrap_or-flags.result c.store-in-None.result [] c.requires.mapped
    is-key is-kind is-flags is-bytes c.number-key.ensures.mapped c.number-kind.ensures.mapped c.requires.ready.2 c.requires.room c.store-in-None.ensures.status c.store-in-None.ensures.stored).1

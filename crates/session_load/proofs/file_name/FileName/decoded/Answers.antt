use Rattle.session_load.proofs.Inside.{none-not_utf8}
use Rattle.session_load.proofs.file_name.FileName.decoded.Goals as goal

pub returns-in-Err-NotUtf8 : goal.returns-in-Err-NotUtf8
returns-in-Err-NotUtf8 c =
    let bad = rw c.in-Err-NotUtf8.field-0-is at c.in-Err-NotUtf8.ensures.err in
    none-not_utf8 _ (rw (← c.percent_decode.ensures.bytes, ← c.in_ok-bytes.ensures.value, ← c.deref.ensures.value) bad.0)

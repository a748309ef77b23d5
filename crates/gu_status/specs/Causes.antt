-- Why no Logon was accepted on a connection.
use Rattle.std.specs.Prelude.{codes}
use Rattle.gu_status.specs.Samples.{Text}
use Rattle.gu_status.specs.declared.causes.Cause.{Cause}
use Rattle.gu_status.specs.declared.causes.Cause.TheVariants as cause

-- the word of a cause
abbrev pub cause_word : Cause → Text
cause_word cause.NoMessage = codes "no_message"
cause_word cause.NoFrame = codes "no_frame"
cause_word cause.Garbled = codes "garbled"
cause_word cause.Partial = codes "no_whole_frame"
cause_word cause.NoLogon = codes "no_logon"
cause_word cause.NoFirm = codes "no_firm"
cause_word cause.Target = codes "target"
cause_word cause.Number = codes "number"
cause_word cause.Encryption = codes "encryption"
cause_word cause.Version = codes "version"
cause_word cause.Logon = codes "logon"
cause_word cause.Book = codes "book"
cause_word cause.LoggedOut = codes "logged_out"

-- Worked rows: the definitions compute these outputs.
use Rattle.std.specs.Prelude.{◌≡◌, ℕ, List, [], ◌∷◌, ◌++◌, Some, codes, replicate}
use Rattle.std.proofs.Common.{refl}
use Rattle.std.specs.List.{flat_map}
use Rattle.std.specs.Fmt.{digits}
use Rattle.std.specs.Str.Lossy.{utf8_lossy, utf8_valid_len}
use Rattle.std.specs.Str.{is_utf8, chars}
use lib.Utf8.{encode}
use Rattle.percent_encoding.specs.Percent.{percent_decode, percent_encode_byte}
use Rattle.gl_base.specs.Digits.{digits_within}
use Rattle.gl_node.specs.State.{Base, opened}
use Rattle.gl_node.specs.declared.node.Options.{Options}
use Rattle.gl_cli.specs.declared.line.Line.{Line}
use Rattle.gl_cli.specs.declared.line.Line.TheVariants.{Udp, Claim, Finish}
use Rattle.gl_lines.specs.ZeroFraming.{frames_of, is_too_long, parts_of}
use Rattle.gl_lines.specs.LineFraming.{behind_count, count, has_count}
use Rattle.gl_cli.specs.Words.{default_options}
use Rattle.gl_cli.specs.Runs.{turns_of, all_text, output, answers}
use Rattle.gl_cli.specs.Script.{bad_line, script_lines}

-- a text of these lines
abbrev pub lines_text : List (List ℕ) → List ℕ
lines_text lines = flat_map (λ line. line ++ 10 ∷ []) lines

-- what stands at the opening of an empty store: two logs with a begin batch of 25 bytes
abbrev pub empty_base : Options → Base
empty_base options = record {
  journal = [];
  found = [];
  journal_bytes = 25;
  index_bytes = 25;
  journal_limit = options.journal_limit;
  index_limit = options.index_limit;
  journal_segment = options.segment;
  index_segment = options.segment;
}

-- an empty store with the default limits
abbrev pub empty : Base
empty = empty_base default_options

pub no_lines : output empty [] [] ≡ lines_text (codes "done 0 0" ∷ [])
unfolding digits
no_lines = refl

pub one_datagram :
    output empty [] (lines_text (codes "at 1000" ∷ codes "udp raw 10.0.0.7 hello" ∷ codes "claim 0 10" ∷ codes "finish 0" ∷ codes "list" ∷ []))
    ≡ lines_text (codes "journalled 0" ∷ codes "claimed 0 0 1" ∷ codes "committed 1" ∷ codes "journal 1 committed 1"
    ∷ codes "0 stored 000000000000000000000001 message=hello&source=10.0.0.7&timestamp:1000" ∷ codes "done 1 1" ∷ [])
unfolding digits digits_within utf8_lossy utf8_valid_len is_utf8 chars encode percent_decode
one_datagram = refl

-- several workers
abbrev pub datagram : Line
datagram = Udp (codes "raw") (codes "p") (codes "x")

pub three_workers : all_text (turns_of [] [] (opened empty) []
    (datagram ∷ datagram ∷ datagram ∷ datagram ∷ datagram ∷ datagram ∷ Claim 1 2 ∷ Claim 2 2 ∷ Claim 2 2 ∷ Claim 3 2 ∷ Finish 3 ∷ Finish 3 ∷ Finish 2 ∷ Finish 1 ∷ Claim 2 9 ∷ []))
    ≡ lines_text (codes "journalled 0" ∷ codes "journalled 1" ∷ codes "journalled 2" ∷ codes "journalled 3" ∷ codes "journalled 4" ∷ codes "journalled 5"
    ∷ codes "claimed 1 0 2" ∷ codes "claimed 2 2 4" ∷ codes "busy 2 4" ∷ codes "claimed 3 4 6" ∷ codes "kept 0" ∷ codes "no-claim" ∷ codes "kept 0" ∷ codes "committed 6" ∷ codes "nothing" ∷ [])
unfolding digits utf8_lossy utf8_valid_len is_utf8 chars encode percent_decode
three_workers = refl

-- the refusals of a payload
abbrev pub small : Base
small = record empty { journal_limit = 4096; index_limit = 4096 }

pub refusals : answers small [] (lines_text (codes "udp raw p " ∷ codes "udp nope p x" ∷ (codes "udp raw 10.0.0.7 " ++ replicate 5000 97) ∷ codes "udp raw p %41%zz 5%" ∷ codes "claim 0 9" ∷ codes "finish 0" ∷ codes "list" ∷ []))
    ≡ lines_text (codes "empty" ∷ codes "unknown-input" ∷ codes "journal-full 25 4096" ∷ codes "journalled 0" ∷ codes "claimed 0 0 1" ∷ codes "committed 1"
    ∷ codes "journal 1 committed 1" ∷ codes "0 stored 000000000000000000000001 message=A%25zz%205%25&source=p&timestamp:0" ∷ [])
unfolding digits digits_within utf8_lossy utf8_valid_len is_utf8 chars encode percent_decode percent_encode_byte
refusals = refl

-- the first line that isn't of the form
pub bad_third : bad_line (script_lines (lines_text (codes "# a remark" ∷ codes "" ∷ codes "claim 64 1" ∷ codes "list" ∷ []))) ≡ Some 3
unfolding digits_within
bad_third = refl

pub bad_zero : bad_line (script_lines (codes "at 007")) ≡ Some 1
bad_zero = refl

pub last_unended : answers empty [] (codes "list") ≡ lines_text (codes "journal 0 committed 0" ∷ [])
unfolding digits
last_unended = refl

-- a connection whose second frame comes in two pieces, of which the later names another peer, and whose last line has no end
pub one_connection :
    answers empty [] (lines_text (codes "tcp raw 7 p a%0Ab" ∷ codes "tcp raw 7 q c%0Ad" ∷ codes "tcp nope 7 p x%0A" ∷ codes "tcp raw 8 p e" ∷ codes "end raw 7" ∷ codes "end raw 7" ∷ codes "claim 0 9" ∷ codes "finish 0" ∷ codes "list" ∷ []))
    ≡ lines_text (codes "journalled 0" ∷ codes "journalled 1" ∷ codes "unknown-input" ∷ codes "journalled 2" ∷ codes "claimed 0 0 3" ∷ codes "committed 3" ∷ codes "journal 3 committed 3"
    ∷ codes "0 stored 000000000000000000000001 message=a&source=p&timestamp:0" ∷ codes "1 stored 000000000000000000000001 message=bc&source=q&timestamp:0"
    ∷ codes "2 stored 000000000000000000000001 message=d&source=q&timestamp:0" ∷ [])
unfolding digits digits_within utf8_lossy utf8_valid_len is_utf8 chars encode percent_decode percent_encode_byte
one_connection = refl

-- counted frames of a syslog connection, and parts between zero bytes of a gelf one, whose rest is dropped at its end
pub other_connections :
    answers empty [] (lines_text (codes "tcp syslog 0 p 3 abc2 d" ∷ codes "tcp syslog 0 p e" ∷ codes "tcp gelf 0 p a%00b" ∷ codes "end gelf 0" ∷ codes "end syslog 0" ∷ codes "list" ∷ []))
    ≡ lines_text (codes "journalled 0" ∷ codes "journalled 1" ∷ codes "journalled 2" ∷ codes "journal 3 committed 0" ∷ [])
unfolding digits digits_within utf8_lossy utf8_valid_len is_utf8 chars encode percent_decode percent_encode_byte has_count count behind_count frames_of is_too_long parts_of
other_connections = refl

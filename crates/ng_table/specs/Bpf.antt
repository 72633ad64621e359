-- ng_bpf(4).
use Rattle.std.specs.Prelude.{List, [], ◌∷◌, ◌+◌, codes}
use Rattle.ng_shape.specs.Shape.{Shape}
use Rattle.ng_table.specs.Message.{Message, message, read_only, has_answer, none, u8, u16, u32, s32, structure, counted_by, counters}

-- struct bpf_insn of bpf(4)
abbrev pub bpf_instruction : Shape
bpf_instruction = structure ((codes "code", u16) ∷ (codes "jt", u8) ∷ (codes "jf", u8) ∷ (codes "k", u32) ∷ [])

-- struct ng_bpf_hookprog
abbrev pub bpf_program : Shape
bpf_program = structure (
    (codes "thisHook", s32)
    ∷ (codes "ifMatch", s32)
    ∷ (codes "ifNotMatch", s32)
    ∷ (codes "bpf_prog_len", u32)
    ∷ (codes "bpf_prog", counted_by (codes "bpf_prog_len") 512 bpf_instruction)
    ∷ [])

-- struct ng_bpf_hookstat
abbrev pub bpf_stats : Shape
bpf_stats = counters (
    codes "recvFrames" ∷ codes "recvOctets" ∷ codes "recvMatchFrames" ∷ codes "recvMatchOctets" ∷
    codes "xmitFrames" ∷ codes "xmitOctets" ∷ [])

-- a program and statistics are asked of a hook by its name
abbrev pub bpf_messages : List Message
bpf_messages =
    message (codes "setprogram") 1 bpf_program none
    ∷ message (codes "getprogram") (2 + read_only + has_answer) s32 bpf_program
    ∷ message (codes "getstats") (3 + has_answer) s32 bpf_stats
    ∷ message (codes "clrstats") 4 s32 none
    ∷ message (codes "getclrstats") (5 + has_answer) s32 bpf_stats
    ∷ []

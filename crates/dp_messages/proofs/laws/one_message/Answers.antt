use Rattle.dp_messages.proofs.OneMessage.{one_message, short}
use Rattle.dp_messages.proofs.laws.one_message.Goals as goal

pub returns-clause-message : goal.returns-clause-message
returns-clause-message c =
    one_message (record {
      kinds = record {
        control = c.one_control.ensures.kind;
        meta = c.one_meta.ensures.kind;
        draw = λ m kind payload s. c.one_draw.ensures.kind kind payload m s;
      };
      control = c.one_control.ensures.message;
      meta = c.one_meta.ensures.message;
      draw = c.one_draw.ensures.message;
    })

pub returns-clause-short : goal.returns-clause-short
returns-clause-short c =
    short (record {
      kinds = record {
        control = c.one_control.ensures.kind;
        meta = c.one_meta.ensures.kind;
        draw = λ m kind payload s. c.one_draw.ensures.kind kind payload m s;
      };
      control = c.one_control.ensures.message;
      meta = c.one_meta.ensures.message;
      draw = c.one_draw.ensures.message;
    })
    c.one_control.ensures.short c.one_meta.ensures.short c.one_draw.ensures.short

mod PadLists

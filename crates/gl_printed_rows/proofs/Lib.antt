mod PrintedRows
